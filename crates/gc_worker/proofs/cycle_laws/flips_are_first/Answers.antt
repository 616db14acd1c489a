use Rattle.gc_worker.proofs.Cycles.Calls.{calls_go_on}
use Rattle.gc_worker.proofs.Cycles.Flips.{flips_are_first, flips_stay_first}
use Rattle.gc_worker.proofs.cycle_laws.flips_are_first.Goals as goal

pub returns : goal.returns
returns c = record { first = flips_are_first; stay = flips_stay_first; calls = calls_go_on }
