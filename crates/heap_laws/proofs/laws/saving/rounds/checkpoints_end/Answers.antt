use Rattle.heap_laws.proofs.Saving.FinishedCheckpoints.{checkpoints_end}
use Rattle.heap_laws.proofs.laws.saving.rounds.checkpoints_end.Goals as goal

pub returns : goal.returns
returns c = checkpoints_end
