use Rattle.heap_laws.proofs.Copying.Laws.{crossings_are_stored}
use Rattle.heap_laws.proofs.laws.copying.crossings_are_stored.Goals as goal

pub returns : goal.returns
returns c = crossings_are_stored
