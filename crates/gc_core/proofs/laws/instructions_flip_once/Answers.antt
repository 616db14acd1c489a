use Rattle.gc_core.proofs.Cycles.CyclesOfRuns.{instructions_flip_once, lone_fulls_follow_their_flips}
use Rattle.gc_core.proofs.laws.instructions_flip_once.Goals as goal

pub returns : goal.returns
returns c = record { once = instructions_flip_once; lone = lone_fulls_follow_their_flips }
