use Rattle.page_saves.proofs.Finding.{hindrances_are_found}
use Rattle.page_saves.proofs.SaveRoundReads.{none_runs_is_shown}
use Rattle.page_saves.proofs.SaveRoundEffects.{shows_nothing, saves_page, marks_done}
use Rattle.page_saves.proofs.laws.save_rounds_show_why.Goals as goal

pub returns : goal.returns
returns c = record {
  none_runs = none_runs_is_shown;
  saved = λ r before after sound whole acts. saves_page r r.stage before after sound whole acts;
  marked = λ r before after sound whole acts. marks_done r r.stage before after sound whole acts;
  nothing = λ r before after word acts. shows_nothing r r.stage before after word acts;
  hindrances = hindrances_are_found;
}
