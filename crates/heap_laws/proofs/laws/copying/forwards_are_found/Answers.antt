use Rattle.heap_laws.proofs.Copying.Laws.{forwards_are_found}
use Rattle.heap_laws.proofs.laws.copying.forwards_are_found.Goals as goal

pub returns : goal.returns
returns c = forwards_are_found
