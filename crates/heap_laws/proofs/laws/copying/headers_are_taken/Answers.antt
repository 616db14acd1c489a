use Rattle.heap_laws.proofs.Copying.Laws.{headers_are_taken}
use Rattle.heap_laws.proofs.laws.copying.headers_are_taken.Goals as goal

pub returns : goal.returns
returns c = headers_are_taken
