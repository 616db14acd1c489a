use Rattle.heap_state.proofs.Saving.Read.{words_read_are_frozen, checkpoints_are_said}
use Rattle.heap_state.proofs.laws.checkpoints_are_said.Goals as goal

pub returns : goal.returns
returns c = record { read = words_read_are_frozen; said = checkpoints_are_said }
