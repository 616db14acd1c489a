use Rattle.heap_laws.proofs.Saving.Stores.{saves_are_read, blank_words_save_nothing}
use Rattle.heap_laws.proofs.laws.saving.rows.saves_are_read.Goals as goal

pub returns : goal.returns
returns c = record { read = saves_are_read; blank = blank_words_save_nothing }
