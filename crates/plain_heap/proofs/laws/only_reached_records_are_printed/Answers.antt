use Rattle.plain_heap.proofs.OneCheckpoint.{same_is_reached, same_is_printed}
use Rattle.plain_heap.proofs.laws.only_reached_records_are_printed.Goals as goal

pub returns : goal.returns
returns c = record { reached = same_is_reached; printed = same_is_printed }
