use Rattle.gate_core.proofs.Clearing.{clears}
use Rattle.gate_core.proofs.laws.clearing_changes_the_request_alone.Goals as goal

pub returns-clause-cleared : goal.returns-clause-cleared
returns-clause-cleared c = λ passing before after word clear sound whole acts. clears passing passing.stage before after word clear sound whole acts
