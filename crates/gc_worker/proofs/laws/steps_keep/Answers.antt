use Rattle.gc_worker.proofs.StepKeeps.{steps_keep}
use Rattle.gc_worker.proofs.laws.steps_keep.Goals as goal

pub returns : goal.returns
returns c = steps_keep
