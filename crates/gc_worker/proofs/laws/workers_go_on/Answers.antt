use Rattle.gc_worker.proofs.Between.KeptTasks.{workers_go_on}
use Rattle.gc_worker.proofs.laws.workers_go_on.Goals as goal

pub returns : goal.returns
returns c = workers_go_on
