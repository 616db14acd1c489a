use Rattle.std.proofs.Common.{sym, ◌∙◌, lit<}
use Rattle.program_text.proofs.Listings.Written.{schedule_text}
use Rattle.program_text.proofs.listing.push_schedule.Goals as goal

pub returns : goal.returns
returns c =
    let wrote = rw (c.push.ensures.ascii (lit< tt)) at c.in_ok-push.ensures.bytes in
    schedule_text c.args.items.now c.loop-item.item-index _ _ _ _ (sym c.is_empty.ensures ∙ c.if-is_empty.false) c.loop-item-test.false c.in_ok-push_str.ensures.bytes c.loop-item.invariant wrote
