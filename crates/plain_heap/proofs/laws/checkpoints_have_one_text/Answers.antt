use Rattle.plain_heap.proofs.OneCheckpoint.{one_checkpoint, one_text}
use Rattle.plain_heap.proofs.laws.checkpoints_have_one_text.Goals as goal

pub returns : goal.returns
returns c = record { checkpoint = one_checkpoint; text = one_text }
