use Rattle.heap_laws.proofs.Targets.Placed.{claiming_carries_targets}
use Rattle.heap_laws.proofs.laws.targets.claiming_carries_targets.Goals as goal

pub returns : goal.returns
returns c = claiming_carries_targets
