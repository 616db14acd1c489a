use Rattle.lone_mutator.proofs.Runs.Progress.{lone_mutators_go_on}
use Rattle.lone_mutator.proofs.laws.lone_mutators_go_on.Goals as goal

pub returns : goal.returns
returns c = lone_mutators_go_on
