use Rattle.heap_laws.proofs.Cells.Reserved.{reservations_carry_chain}
use Rattle.heap_laws.proofs.laws.cells.reservations_carry_chain.Goals as goal

pub returns : goal.returns
returns c = reservations_carry_chain
