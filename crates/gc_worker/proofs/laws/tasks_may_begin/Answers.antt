use Rattle.gc_worker.proofs.Between.Beginning.{tasks_may_begin}
use Rattle.gc_worker.proofs.laws.tasks_may_begin.Goals as goal

pub returns : goal.returns
returns c = tasks_may_begin
