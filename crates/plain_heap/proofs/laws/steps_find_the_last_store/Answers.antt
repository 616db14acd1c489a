use Rattle.plain_heap.proofs.Orders.LastStores.{orders_store_words, steps_compare_the_last_store, steps_load_the_last_store}
use Rattle.plain_heap.proofs.laws.steps_find_the_last_store.Goals as goal

pub returns : goal.returns
returns c = record { loads = steps_load_the_last_store; exchanges = steps_compare_the_last_store; words = orders_store_words }
