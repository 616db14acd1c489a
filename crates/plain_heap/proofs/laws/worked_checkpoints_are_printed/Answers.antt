use Rattle.plain_heap.proofs.WorkedCheckpoints.{are_printed}
use Rattle.plain_heap.proofs.laws.worked_checkpoints_are_printed.Goals as goal

pub returns : goal.returns
returns c = are_printed
