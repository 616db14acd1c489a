use Rattle.heap_laws.proofs.Cells.Turned.{taking_turn_carries_chain}
use Rattle.heap_laws.proofs.laws.cells.turns_carry_chain.Goals as goal

pub returns : goal.returns
returns c = taking_turn_carries_chain
