use Rattle.heap_laws.proofs.Steps.Answers.{scans_are_answered}
use Rattle.heap_laws.proofs.laws.answers.scans_are_answered.Goals as goal

pub returns : goal.returns
returns c = scans_are_answered
