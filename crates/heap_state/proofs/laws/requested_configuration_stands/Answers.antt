use Rattle.heap_state.proofs.Requested.RequestedStands.{worked_out_requested}
use Rattle.heap_state.proofs.laws.requested_configuration_stands.Goals as goal

pub returns : goal.returns
returns c = worked_out_requested
