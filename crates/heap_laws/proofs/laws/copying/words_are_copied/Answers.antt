use Rattle.heap_laws.proofs.Copying.Laws.{words_are_copied}
use Rattle.heap_laws.proofs.laws.copying.words_are_copied.Goals as goal

pub returns : goal.returns
returns c = words_are_copied
