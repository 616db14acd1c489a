use Rattle.heap_laws.proofs.Cells.Placed.{placing_carries_chain}
use Rattle.heap_laws.proofs.laws.cells.placing_carries_chain.Goals as goal

pub returns : goal.returns
returns c = placing_carries_chain
