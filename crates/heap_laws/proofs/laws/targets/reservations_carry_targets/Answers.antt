use Rattle.heap_laws.proofs.Targets.Reserved.{reservations_carry_targets}
use Rattle.heap_laws.proofs.laws.targets.reservations_carry_targets.Goals as goal

pub returns : goal.returns
returns c = reservations_carry_targets
