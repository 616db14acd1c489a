use Rattle.gc_worker.proofs.Between.Others.{answers_leave_the_others}
use Rattle.gc_worker.proofs.laws.answers_leave_the_others.Goals as goal

pub returns : goal.returns
returns c = answers_leave_the_others
