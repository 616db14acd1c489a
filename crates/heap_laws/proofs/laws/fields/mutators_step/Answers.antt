use Rattle.heap_laws.proofs.Fields.Laws.{mutators_step}
use Rattle.heap_laws.proofs.laws.fields.mutators_step.Goals as goal

pub returns : goal.returns
returns c = mutators_step
