use Rattle.heap_laws.proofs.Targets.TargetRows.{storing_link_carries_targets}
use Rattle.heap_laws.proofs.laws.targets.links_carry_targets.Goals as goal

pub returns : goal.returns
returns c = storing_link_carries_targets
