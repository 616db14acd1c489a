use Rattle.gc_core.proofs.Told.ToldCheckpoints.{checkpoints_are_told}
use Rattle.gc_core.proofs.laws.checkpoints_are_told.Goals as goal

pub returns : goal.returns
returns c = checkpoints_are_told
