use Rattle.gc_core.proofs.Cycles.CyclesOfRuns.{claims_are_made_or_set_aside}
use Rattle.gc_core.proofs.laws.claims_are_made_or_set_aside.Goals as goal

pub returns : goal.returns
returns c = claims_are_made_or_set_aside
