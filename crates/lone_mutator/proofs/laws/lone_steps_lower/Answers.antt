use Rattle.lone_mutator.proofs.Steps.Law.{lone_steps_lower}
use Rattle.lone_mutator.proofs.laws.lone_steps_lower.Goals as goal

pub returns : goal.returns
returns c = lone_steps_lower
