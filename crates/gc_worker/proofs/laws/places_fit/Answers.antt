use Rattle.gc_worker.proofs.Words.WorkerRows.{places_fit}
use Rattle.gc_worker.proofs.laws.places_fit.Goals as goal

pub returns : goal.returns
returns c = places_fit
