use Rattle.heap_laws.proofs.Copying.Laws.{old_words_are_loaded}
use Rattle.heap_laws.proofs.laws.copying.old_words_are_loaded.Goals as goal

pub returns : goal.returns
returns c = old_words_are_loaded
