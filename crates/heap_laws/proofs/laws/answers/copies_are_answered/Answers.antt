use Rattle.heap_laws.proofs.Steps.Answers.{old_headers_are_read}
use Rattle.heap_laws.proofs.Steps.Answers.{copies_are_there}
use Rattle.heap_laws.proofs.laws.answers.copies_are_answered.Goals as goal

pub returns : goal.returns
returns c = record { headers = old_headers_are_read; places = copies_are_there }
