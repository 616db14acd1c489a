use Rattle.heap_laws.proofs.Lifting.Configurations.{ready}
use Rattle.heap_laws.proofs.laws.lifting.standing_is_ready.Goals as goal

pub returns : goal.returns
returns c = ready
