use Rattle.gc_worker.proofs.Saving.Safe.{checkpoints_are_safe}
use Rattle.gc_worker.proofs.laws.checkpoints_are_safe.Goals as goal

pub returns : goal.returns
returns c = checkpoints_are_safe
