use Rattle.heap_laws.proofs.Copying.CopiedCells.{links_are_stored}
use Rattle.heap_laws.proofs.laws.copying.links_are_stored.Goals as goal

pub returns : goal.returns
returns c = links_are_stored
