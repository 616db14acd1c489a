use Rattle.heap_laws.proofs.Targets.Placed.{placing_carries_targets, new_targets_are_stored}
use Rattle.heap_laws.proofs.laws.targets.placing_carries_targets.Goals as goal

pub returns : goal.returns
returns c = record { places = placing_carries_targets; stored = new_targets_are_stored }
