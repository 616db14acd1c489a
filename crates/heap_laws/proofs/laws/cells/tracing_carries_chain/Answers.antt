use Rattle.heap_laws.proofs.Cells.Turned.{walk_is_done, tracing_carries_chain}
use Rattle.heap_laws.proofs.laws.cells.tracing_carries_chain.Goals as goal

pub returns : goal.returns
returns c = record { done = walk_is_done; traced = tracing_carries_chain }
