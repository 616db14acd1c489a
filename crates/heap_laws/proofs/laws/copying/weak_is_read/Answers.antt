use Rattle.heap_laws.proofs.Copying.CopiedCells.{weak_is_loaded, weak_is_forgotten}
use Rattle.heap_laws.proofs.laws.copying.weak_is_read.Goals as goal

pub returns : goal.returns
returns c = record { loaded = weak_is_loaded; forgotten = weak_is_forgotten }
