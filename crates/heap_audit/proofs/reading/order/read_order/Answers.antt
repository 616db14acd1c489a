use Rattle.std.proofs.Common.{refl, sym}
use Rattle.heap_audit.proofs.Texts.Orders.{order_goes_on, order_is_less, order_only, order_unended, order_wrong, no_name, names_wrong}
use Rattle.heap_audit.proofs.reading.order.read_order.Goals as goal

pub returns-in_default-mark-clause-only : goal.returns-in_default-mark-clause-only
returns-in_default-mark-clause-only c =
    order_wrong c.args.bytes.now c.in-Some.body.now c.loop-text.found.items c.loop-text.rest.now (sym c.in-Some.ensures) c.loop-text.invariant c.in-Some-after.text.now (sym c.in-Some-after.ensures) (sym c.in_default-mark.ensures)

pub loop-text-smaller : goal.loop-text-smaller
loop-text-smaller c = order_is_less c.loop-text.rest.now c.in-Some-after.text.now c.in-Some-mark.read.0 c.in-Some-mark.read.1.now (sym c.in-Some-after.ensures) (sym c.in-Some-mark.ensures)

pub loop-text-preserved : goal.loop-text-preserved
loop-text-preserved c =
    rw c.in_ok-push.ensures.items
    (order_goes_on c.in-Some.body.now c.loop-text.found.items c.loop-text.rest.now c.in-Some-after.text.now c.in-Some-mark.read.0 c.in-Some-mark.read.1.now (sym c.in-Some-after.ensures) (sym c.in-Some-mark.ensures) c.loop-text.invariant)

pub returns-in_default-after-2-clause-only : goal.returns-in_default-after-2-clause-only
returns-in_default-after-2-clause-only c =
    order_unended c.args.bytes.now c.in-Some.body.now c.loop-text.found.items c.loop-text.rest.now (sym c.in-Some.ensures) c.loop-text.invariant (sym c.in_default-after.ensures) (sym c.in_default-after-2.ensures)

pub returns-clause-only : goal.returns-clause-only
returns-clause-only c =
    order_only c.args.bytes.now c.in-Some.body.now c.loop-text.found.items c.loop-text.rest.now (sym c.in-Some.ensures) c.loop-text.invariant c.in-Some-after-2.behind.now (sym c.in-Some-after-2.ensures)

pub returns-in_default-clause-first_wrong : goal.returns-in_default-clause-first_wrong
returns-in_default-clause-first_wrong c = names_wrong c.args.bytes.now c.args.before _ refl (λ marks tail _ e. no_name c.args.bytes.now (sym c.in_default.ensures) marks tail e)

pub returns-in_default-mark-clause-first_wrong : goal.returns-in_default-mark-clause-first_wrong
returns-in_default-mark-clause-first_wrong c =
    names_wrong c.args.bytes.now c.args.before _ refl
    (order_wrong c.args.bytes.now c.in-Some.body.now c.loop-text.found.items c.loop-text.rest.now (sym c.in-Some.ensures) c.loop-text.invariant c.in-Some-after.text.now (sym c.in-Some-after.ensures) (sym c.in_default-mark.ensures))

pub returns-in_default-after-2-clause-first_wrong : goal.returns-in_default-after-2-clause-first_wrong
returns-in_default-after-2-clause-first_wrong c =
    names_wrong c.args.bytes.now c.args.before _ refl
    (order_unended c.args.bytes.now c.in-Some.body.now c.loop-text.found.items c.loop-text.rest.now (sym c.in-Some.ensures) c.loop-text.invariant (sym c.in_default-after.ensures) (sym c.in_default-after-2.ensures))
