use Rattle.heap_laws.proofs.Copying.CopiedCells.{cells_are_linked}
use Rattle.heap_laws.proofs.laws.copying.cells_are_linked.Goals as goal

pub returns : goal.returns
returns c = cells_are_linked
