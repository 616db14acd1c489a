use Rattle.heap_laws.proofs.Steps.Composing.{steps_are_ready, steps_follow, plain_steps_are_ready, plain_steps_follow}
use Rattle.heap_laws.proofs.laws.composing.steps_follow.Goals as goal

pub returns : goal.returns
returns c = record { ready = steps_are_ready; kept = steps_follow; plain_ready = plain_steps_are_ready; plain = plain_steps_follow }
