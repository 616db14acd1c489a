use Rattle.lone_mutator.proofs.Runs.Progress.{lone_mutators_go_on}
use Rattle.lone_mutator.proofs.Runs.LoneRunEnds.{lone_runs_end}
use Rattle.lone_mutator.proofs.laws.lone_runs_end.Goals as goal

pub returns : goal.returns
returns c = lone_runs_end lone_mutators_go_on
