use Rattle.heap_laws.proofs.Copying.Laws.{nothing_else_changes}
use Rattle.heap_laws.proofs.laws.copying.nothing_changes.Goals as goal

pub returns : goal.returns
returns c = nothing_else_changes
