use Rattle.gc_worker.proofs.Between.Last.{scanners_begin_last, scanners_stay_last}
use Rattle.gc_worker.proofs.laws.scanners_go_last.Goals as goal

pub returns : goal.returns
returns c = record { begin = scanners_begin_last; stay = scanners_stay_last }
