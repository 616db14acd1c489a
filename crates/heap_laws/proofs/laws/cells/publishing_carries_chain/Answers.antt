use Rattle.heap_laws.proofs.Cells.Published.{publishing_carries_chain}
use Rattle.heap_laws.proofs.laws.cells.publishing_carries_chain.Goals as goal

pub returns : goal.returns
returns c = publishing_carries_chain
