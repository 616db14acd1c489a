use Rattle.gc_worker.proofs.Plain.Represented.{represented_workers}
use Rattle.gc_worker.proofs.laws.what_is_represented_stands.Goals as goal

pub returns : goal.returns
returns c = represented_workers
