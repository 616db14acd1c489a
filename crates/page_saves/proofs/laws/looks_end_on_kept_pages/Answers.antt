use Rattle.page_saves.proofs.Guarding.{guard_ends}
use Rattle.page_saves.proofs.laws.looks_end_on_kept_pages.Goals as goal

pub returns : goal.returns
returns c = λ g before after outcome sound whole some acts. guard_ends g g.stage before after outcome sound whole some acts
