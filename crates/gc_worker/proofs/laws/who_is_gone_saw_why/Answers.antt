use Rattle.gc_worker.proofs.Between.Gone.{who_is_gone_saw_why}
use Rattle.gc_worker.proofs.laws.who_is_gone_saw_why.Goals as goal

pub returns : goal.returns
returns c = who_is_gone_saw_why
