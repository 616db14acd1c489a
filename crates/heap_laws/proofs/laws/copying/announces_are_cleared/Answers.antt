use Rattle.heap_laws.proofs.Copying.Laws.{announces_are_cleared}
use Rattle.heap_laws.proofs.laws.copying.announces_are_cleared.Goals as goal

pub returns : goal.returns
returns c = announces_are_cleared
