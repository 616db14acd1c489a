use Rattle.concordance_text.proofs.Entries.{in_order}
use Rattle.concordance_text.proofs.listing.told.Goals as goal

pub returns-in_err-push_row-clause-ordered : goal.returns-in_err-push_row-clause-ordered
returns-in_err-push_row-clause-ordered c = in_order c.args.words.now.entries c.iter-word-items.ensures.ordered

pub returns-clause-ordered : goal.returns-clause-ordered
returns-clause-ordered c = in_order c.args.words.now.entries c.iter-word-items.ensures.ordered
