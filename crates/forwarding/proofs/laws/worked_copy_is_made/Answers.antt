use Rattle.forwarding.proofs.WorkedOut.{is_worked_out}
use Rattle.forwarding.proofs.laws.worked_copy_is_made.Goals as goal

pub returns : goal.returns
returns c = is_worked_out
