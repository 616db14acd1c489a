use Rattle.gc_core.proofs.Cycles.CyclesOfRuns.{fulls_follow_flips}
use Rattle.gc_core.proofs.laws.fulls_follow_flips.Goals as goal

pub returns : goal.returns
returns c = fulls_follow_flips
