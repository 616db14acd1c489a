use Rattle.page_saves.proofs.SaveGoesOn.{saves_go_on}
use Rattle.page_saves.proofs.laws.saves_go_on.Goals as goal

pub returns : goal.returns
returns c = saves_go_on
