use Rattle.gate_core.proofs.Passing.{passes, hindered}
use Rattle.gate_core.proofs.laws.passages_are_made_where_allowed.Goals as goal

pub returns : goal.returns
returns c = record { made = λ passing before after word sound whole acts. passes passing passing.stage before after word sound whole acts; hindered = λ passing before after word acts. hindered passing passing.stage before after word acts }
