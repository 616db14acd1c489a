use Rattle.heap_laws.proofs.Walking.Answered.{walks_are_answered, chains_are_answered}
use Rattle.heap_laws.proofs.laws.answers.walks_are_answered.Goals as goal

pub returns : goal.returns
returns c = record { head = chains_are_answered; cell = walks_are_answered }
