use Rattle.std.proofs.Common.{◌+◌, map}
use Rattle.dump_text.specs.Reading.{dump_view}
use Rattle.heap_audit.specs.Texts.Lines.{seen_by}
use Rattle.heap_audit.specs.Texts.Part.{part_view}
use Rattle.heap_audit.proofs.Texts.WholePart.{dump_fails, dump_wrong, lines_fail, lines_fail_wrong, order_fails, order_fails_wrong, part_only}
use Rattle.heap_audit.proofs.reading.part.read_part.Goals as goal

pub returns-in_err-seen-clause-only : goal.returns-in_err-seen-clause-only
returns-in_err-seen-clause-only c =
    lines_fail c.args.mutators c.args.bytes.now (λ q. q) part_view c.from_residual.result c.in_err-seen.field-0.0 c.from_residual.ensures.1 c.in_err-seen.ensures.only

pub returns-in_err-seen-clause-first_wrong : goal.returns-in_err-seen-clause-first_wrong
returns-in_err-seen-clause-first_wrong c =
    λ some few. lines_fail_wrong c.args.mutators some few c.args.bytes.now c.from_residual.result c.in_err-seen.field-0.0 c.from_residual.ensures.1 c.in_err-seen.ensures.first_wrong

pub returns-in_err-order-clause-only : goal.returns-in_err-order-clause-only
returns-in_err-order-clause-only c =
    order_fails c.args.mutators c.args.bytes.now (λ q. q) part_view (map seen_by c.in_ok-seen.seen.items, c.in_ok-seen.rest.now) c.in_ok-seen.ensures.only
    (λ q. q) c.from_residual-in_err-order.result c.in_err-order.field-0.0 c.from_residual-in_err-order.ensures.1 c.in_err-order.ensures.only

pub returns-in_err-order-clause-first_wrong : goal.returns-in_err-order-clause-first_wrong
returns-in_err-order-clause-first_wrong c =
    λ some few.
    order_fails_wrong c.args.mutators some few c.args.bytes.now (map seen_by c.in_ok-seen.seen.items) c.in_ok-seen.rest.now c.in_ok-seen.lines c.in_ok-seen.ensures.found c.in_ok-seen.ensures.counted
    c.from_residual-in_err-order.result c.in_err-order.field-0.0 c.from_residual-in_err-order.ensures.1 c.in_err-order.ensures.first_wrong

pub returns-in-Ok-clause-only : goal.returns-in-Ok-clause-only
returns-in-Ok-clause-only c =
    part_only c.args.mutators c.args.bytes.now (λ q. q) part_view (map seen_by c.in_ok-seen.seen.items, c.in_ok-seen.rest.now) c.in_ok-seen.ensures.only
    (λ q. q) (c.in_ok-order.order.items, c.in_ok-order.rest.now) c.in_ok-order.ensures.only dump_view c.in-Ok.dump c.in-Ok.ensures.only

pub returns-in-Err-clause-only : goal.returns-in-Err-clause-only
returns-in-Err-clause-only c =
    rw c.behind.ensures
    (dump_fails c.args.mutators c.args.bytes.now (λ q. q) part_view (map seen_by c.in_ok-seen.seen.items, c.in_ok-seen.rest.now) c.in_ok-seen.ensures.only
    (λ q. q) (c.in_ok-order.order.items, c.in_ok-order.rest.now) c.in_ok-order.ensures.only dump_view (c.in_ok-seen.lines + 1) c.in-Err.error c.in-Err.ensures.only)

pub returns-in-Err-clause-first_wrong : goal.returns-in-Err-clause-first_wrong
returns-in-Err-clause-first_wrong c =
    λ some few.
    rw c.behind.ensures
    (dump_wrong c.args.mutators some few c.args.bytes.now (map seen_by c.in_ok-seen.seen.items) c.in_ok-seen.rest.now c.in_ok-seen.lines c.in_ok-seen.ensures.found c.in_ok-seen.ensures.counted
    c.in_ok-order.order.items c.in_ok-order.rest.now c.in_ok-order.ensures.found c.in-Err.error (c.in-Err.ensures.first_wrong some few))
