use Rattle.gc_core.proofs.EventLaws.{runs_are_plain_runs}
use Rattle.gc_core.proofs.laws.runs_are_plain_runs.Goals as goal

pub returns : goal.returns
returns c = runs_are_plain_runs
