use Rattle.heap_laws.proofs.Cells.ChainRows.{same_front_carries_chain}
use Rattle.heap_laws.proofs.laws.cells.same_front_carries_chain.Goals as goal

pub returns : goal.returns
returns c = same_front_carries_chain
