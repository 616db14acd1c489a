use Rattle.concordance.proofs.WholeClerk.{whole_calls}
use Rattle.concordance.proofs.laws.whole_calls_are_plain.Goals as goal

pub returns : goal.returns
returns c = whole_calls
