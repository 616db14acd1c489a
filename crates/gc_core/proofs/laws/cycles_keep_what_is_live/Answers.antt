use Rattle.gc_core.proofs.Cycles.CyclesOfRuns.{cycles_keep_what_is_live}
use Rattle.gc_core.proofs.laws.cycles_keep_what_is_live.Goals as goal

pub returns : goal.returns
returns c = cycles_keep_what_is_live
