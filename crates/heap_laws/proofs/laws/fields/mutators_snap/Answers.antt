use Rattle.heap_laws.proofs.Fields.Laws.{mutators_snap}
use Rattle.heap_laws.proofs.laws.fields.mutators_snap.Goals as goal

pub returns : goal.returns
returns c = mutators_snap
