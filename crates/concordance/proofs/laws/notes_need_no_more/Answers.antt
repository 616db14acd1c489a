use Rattle.concordance.proofs.Notes.Needing.{notes_need_no_more}
use Rattle.concordance.proofs.laws.notes_need_no_more.Goals as goal

pub returns : goal.returns
returns c = notes_need_no_more
