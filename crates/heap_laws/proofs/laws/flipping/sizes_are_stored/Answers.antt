use Rattle.heap_laws.proofs.Flipping.StoredSizes.{sizes_are_stored}
use Rattle.heap_laws.proofs.laws.flipping.sizes_are_stored.Goals as goal

pub returns : goal.returns
returns c = sizes_are_stored
