use Rattle.cell_walk.proofs.WorkedOut.{is_worked_out}
use Rattle.cell_walk.proofs.laws.worked_chain_is_walked.Goals as goal

pub returns : goal.returns
returns c = is_worked_out
