use Rattle.heap_state.proofs.Worked.Out.{worked_out}
use Rattle.heap_state.proofs.laws.worked_configuration_stands.Goals as goal

pub returns : goal.returns
returns c = worked_out
