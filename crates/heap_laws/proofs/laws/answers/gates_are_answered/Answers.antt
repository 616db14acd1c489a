use Rattle.heap_laws.proofs.Steps.Answers.{passages_fit}
use Rattle.heap_laws.proofs.laws.answers.gates_are_answered.Goals as goal

pub returns : goal.returns
returns c = passages_fit
