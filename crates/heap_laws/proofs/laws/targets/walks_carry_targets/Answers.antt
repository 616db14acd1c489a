use Rattle.heap_laws.proofs.Targets.Walked.{replacing_carries_targets}
use Rattle.heap_laws.proofs.laws.targets.walks_carry_targets.Goals as goal

pub returns : goal.returns
returns c = replacing_carries_targets
