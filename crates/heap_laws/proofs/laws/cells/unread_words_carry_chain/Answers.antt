use Rattle.heap_laws.proofs.Cells.ChainRows.{unread_words_carry_chain, no_cell_words_are_read}
use Rattle.heap_laws.proofs.laws.cells.unread_words_carry_chain.Goals as goal

pub returns : goal.returns
returns c = record { store = unread_words_carry_chain; words = no_cell_words_are_read }
