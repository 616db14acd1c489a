use Rattle.page_saves.proofs.SaveGoesOn.{guards_go_on}
use Rattle.page_saves.proofs.laws.looks_go_on.Goals as goal

pub returns : goal.returns
returns c = guards_go_on
