use Rattle.crossing_map.proofs.WorkedOut.{is_worked_out}
use Rattle.crossing_map.proofs.laws.worked_spaces_are_walked.Goals as goal

pub returns : goal.returns
returns c = is_worked_out
