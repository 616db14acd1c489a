use Rattle.heap_laws.proofs.Cells.Walked.{beginning_walk_carries_chain, going_on_carries_chain}
use Rattle.heap_laws.proofs.laws.cells.walks_carry_chain.Goals as goal

pub returns : goal.returns
returns c = record { begins = beginning_walk_carries_chain; goes_on = going_on_carries_chain }
