use Rattle.gc_worker.proofs.Between.StandingHeaps.{what_stands_is_so}
use Rattle.gc_worker.proofs.laws.what_stands_is_so.Goals as goal

pub returns : goal.returns
returns c = what_stands_is_so
