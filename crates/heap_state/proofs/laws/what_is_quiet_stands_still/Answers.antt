use Rattle.heap_state.proofs.Holds.Still.{stands_still}
use Rattle.heap_state.proofs.laws.what_is_quiet_stands_still.Goals as goal

pub returns : goal.returns
returns c = stands_still
