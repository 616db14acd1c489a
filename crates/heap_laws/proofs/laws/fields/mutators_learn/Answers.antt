use Rattle.heap_laws.proofs.Fields.Laws.{mutators_learn, goes_on_so}
use Rattle.heap_laws.proofs.laws.fields.mutators_learn.Goals as goal

pub returns : goal.returns
returns c = record { learns = mutators_learn; goes_on = goes_on_so }
