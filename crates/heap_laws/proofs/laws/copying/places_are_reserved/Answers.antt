use Rattle.heap_laws.proofs.Copying.Laws.{places_are_reserved}
use Rattle.heap_laws.proofs.laws.copying.places_are_reserved.Goals as goal

pub returns : goal.returns
returns c = places_are_reserved
