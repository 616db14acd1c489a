use Rattle.gc_worker.proofs.Plain.CellTargets.LostCells.{lost_cells_are_empty}
use Rattle.gc_worker.proofs.laws.lost_cells_are_empty.Goals as goal

pub returns : goal.returns
returns c = lost_cells_are_empty
