use Rattle.heap_laws.proofs.Cells.ChainRows.{unread_rows_carry_chain}
use Rattle.heap_laws.proofs.laws.cells.unread_rows_carry_chain.Goals as goal

pub returns : goal.returns
returns c = unread_rows_carry_chain
