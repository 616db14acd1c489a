use Rattle.plain_heap.proofs.Calls.MadeCells.{cells_stay}
use Rattle.plain_heap.proofs.Calls.RecordsAfterCalls.{shapes_stay}
use Rattle.plain_heap.proofs.laws.shapes_stay.Goals as goal

pub returns : goal.returns
returns c = record { shapes = shapes_stay; cells = cells_stay }
