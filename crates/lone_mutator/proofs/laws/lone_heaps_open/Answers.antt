use Rattle.lone_mutator.proofs.Runs.LoneOpening.{heaps_open}
use Rattle.lone_mutator.proofs.laws.lone_heaps_open.Goals as goal

pub returns : goal.returns
returns c = heaps_open
