use Rattle.heap_laws.proofs.Targets.Ended.{sizes_carry_targets, flipping_carries_targets}
use Rattle.heap_laws.proofs.laws.targets.flips_carry_targets.Goals as goal

pub returns : goal.returns
returns c = record { sizes = sizes_carry_targets; flips = flipping_carries_targets }
