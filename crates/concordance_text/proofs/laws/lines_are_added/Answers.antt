use Rattle.concordance_text.proofs.MoreLines.{lines_are_added}
use Rattle.concordance_text.proofs.laws.lines_are_added.Goals as goal

pub returns : goal.returns
returns c = lines_are_added
