use Rattle.plain_heap.proofs.Calls.BegunCheckpoints.{only_snap_begins}
use Rattle.plain_heap.proofs.laws.only_snap_begins_checkpoints.Goals as goal

pub returns : goal.returns
returns c = only_snap_begins
