use Rattle.plain_heap.proofs.Orders.LastStores.{steps_compare_the_last_store, steps_load_the_last_store}
use Rattle.gc_core.proofs.laws.runs_find_the_last_store.Goals as goal

pub returns-clause-loads : goal.returns-clause-loads
returns-clause-loads c code items turns config schedule n program size turns_fit few front rest m own register identity index is does =
    steps_load_the_last_store code turns front m own register identity index does

pub returns-clause-exchanges : goal.returns-clause-exchanges
returns-clause-exchanges c code items turns config schedule n program size turns_fit few front rest m own register identity index expected new is does =
    steps_compare_the_last_store code turns front m own register identity index expected new does
