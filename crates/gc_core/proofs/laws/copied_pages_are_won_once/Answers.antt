use Rattle.gc_core.proofs.EventLaws.{copied_pages_are_won_once, flips_are_of_traced_cores}
use Rattle.gc_core.proofs.laws.copied_pages_are_won_once.Goals as goal

pub returns : goal.returns
returns c = record { won = copied_pages_are_won_once; flips = flips_are_of_traced_cores }
