use Rattle.gc_core.proofs.EventLaws.{no_page_is_won_twice}
use Rattle.gc_core.proofs.laws.no_page_is_won_twice.Goals as goal

pub returns : goal.returns
returns c = no_page_is_won_twice
