use Rattle.heap_laws.proofs.Steps.Answers.{areas_are_read}
use Rattle.heap_laws.proofs.laws.answers.areas_are_answered.Goals as goal

pub returns : goal.returns
returns c = areas_are_read
