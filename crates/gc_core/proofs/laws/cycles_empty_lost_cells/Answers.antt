use Rattle.gc_core.proofs.Cycles.CyclesOfRuns.{cycles_empty_lost_cells}
use Rattle.gc_core.proofs.laws.cycles_empty_lost_cells.Goals as goal

pub returns : goal.returns
returns c = cycles_empty_lost_cells
