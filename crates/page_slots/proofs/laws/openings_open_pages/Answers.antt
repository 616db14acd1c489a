use Rattle.page_slots.proofs.OpeningEffects.{opens}
use Rattle.page_slots.proofs.laws.openings_open_pages.Goals as goal

pub returns : goal.returns
returns c = record { opened = λ opening before after outcome sound whole acts. opens opening opening.stage before after outcome sound whole acts }
