use Rattle.heap_state.proofs.Flipped.FlippedStands.{worked_out_flipped}
use Rattle.heap_state.proofs.laws.flipped_configuration_stands.Goals as goal

pub returns : goal.returns
returns c = worked_out_flipped
