use Rattle.forwarding.proofs.Ordering.{each_in_order}
use Rattle.forwarding.proofs.laws.copies_are_made_in_order.Goals as goal

pub returns : goal.returns
returns c = each_in_order
