use Rattle.heap_laws.proofs.Copying.Laws.{places_are_aimed}
use Rattle.heap_laws.proofs.laws.copying.places_are_aimed.Goals as goal

pub returns : goal.returns
returns c = places_are_aimed
