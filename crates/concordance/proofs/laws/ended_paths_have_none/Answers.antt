use Rattle.concordance.proofs.Notes.Finding.{none_behind}
use Rattle.concordance.proofs.laws.ended_paths_have_none.Goals as goal

pub returns : goal.returns
returns c m records first latest notes word depth kept passed ends = none_behind m records first latest notes kept word depth passed ends
