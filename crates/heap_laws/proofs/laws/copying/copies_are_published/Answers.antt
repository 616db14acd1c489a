use Rattle.heap_laws.proofs.Copying.Laws.{copies_are_published}
use Rattle.heap_laws.proofs.laws.copying.copies_are_published.Goals as goal

pub returns : goal.returns
returns c = copies_are_published
