use Rattle.concordance.proofs.Notes.Worked.{holds_worked_out}
use Rattle.concordance.proofs.laws.notes_are_worked_out.Goals as goal

pub returns : goal.returns
returns c = holds_worked_out
