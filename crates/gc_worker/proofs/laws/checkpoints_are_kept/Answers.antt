use Rattle.gc_worker.proofs.Saving.Won.{checkpoints_are_kept}
use Rattle.gc_worker.proofs.laws.checkpoints_are_kept.Goals as goal

pub returns : goal.returns
returns c = checkpoints_are_kept
