use Rattle.heap_laws.proofs.Allocation.Shown.{zeros_show}
use Rattle.heap_laws.proofs.Allocation.Placed.{mutators_place}
use Rattle.heap_laws.proofs.laws.allocating.mutators_place.Goals as goal

pub returns : goal.returns
returns c = record { places = mutators_place; zeros = zeros_show }
