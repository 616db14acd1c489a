use Rattle.gc_worker.proofs.Between.Wanting.{workers_want}
use Rattle.gc_worker.proofs.laws.workers_want.Goals as goal

pub returns : goal.returns
returns c = workers_want
