use Rattle.heap_laws.proofs.Fields.Laws.{mutators_store}
use Rattle.heap_laws.proofs.laws.fields.mutators_store.Goals as goal

pub returns : goal.returns
returns c = mutators_store
