use Rattle.heap_laws.proofs.Steps.Composing.{steps_forget, plain_steps_forget}
use Rattle.heap_laws.proofs.laws.composing.steps_forget.Goals as goal

pub returns : goal.returns
returns c = record { kept = steps_forget; plain = plain_steps_forget }
