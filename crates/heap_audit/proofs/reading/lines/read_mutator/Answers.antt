use Rattle.std.proofs.Common.{sym, arith}
use Rattle.heap_audit.proofs.Texts.SeenLines.{goes_on, too_many, no_end, seen_ends, ends_only, less, too_many_wrong, no_end_wrong}
use Rattle.heap_audit.proofs.reading.lines.read_mutator.Goals as goal

pub returns-then-len-eq-MOST_PRINTED-clause-only : goal.returns-then-len-eq-MOST_PRINTED-clause-only
returns-then-len-eq-MOST_PRINTED-clause-only c =
    too_many c.args.m c.ranges.m.fits c.args.bytes.now c.loop-read.printed.items c.loop-read.rest.now c.loop-read.invariant c.in-Some.read.0 c.in-Some.read.1.now (sym c.in-Some.ensures) (omega (arith, c.if-len-eq-MOST_PRINTED.true, c.len.ensures))

pub loop-read-smaller : goal.loop-read-smaller
loop-read-smaller c = less c.args.m c.ranges.m.fits c.loop-read.rest.now c.in-Some.read.0 c.in-Some.read.1.now (sym c.in-Some.ensures)

pub loop-read-preserved : goal.loop-read-preserved
loop-read-preserved c =
    rw c.in_ok-push.ensures.items
    (goes_on c.args.m c.ranges.m.fits c.args.bytes.now c.loop-read.printed.items c.loop-read.rest.now c.loop-read.invariant c.in-Some.read.0 c.in-Some.read.1.now (sym c.in-Some.ensures) (omega (arith, c.if-len-eq-MOST_PRINTED.false, c.len.ensures, c.loop-read.invariant.few)))

pub returns-in_default-ended_line-clause-only : goal.returns-in_default-ended_line-clause-only
returns-in_default-ended_line-clause-only c =
    no_end c.args.m c.ranges.m.fits c.args.bytes.now c.loop-read.printed.items c.loop-read.rest.now c.loop-read.invariant (sym c.in_default.ensures) (sym c.in_default-ended_line.ensures)

pub returns-clause-found : goal.returns-clause-found
returns-clause-found c =
    seen_ends c.args.m c.ranges.m.fits c.args.bytes.now c.loop-read.printed.items c.loop-read.rest.now c.loop-read.invariant c.in-Some-ended_line.read.0 c.in-Some-ended_line.read.1.now (sym c.in-Some-ended_line.ensures)

pub returns-clause-only : goal.returns-clause-only
returns-clause-only c =
    ends_only c.args.m c.ranges.m.fits c.args.bytes.now c.loop-read.printed.items c.loop-read.rest.now c.loop-read.invariant c.in-Some-ended_line.read.0 c.in-Some-ended_line.read.1.now (sym c.in_default.ensures) (sym c.in-Some-ended_line.ensures)

pub returns-then-len-eq-MOST_PRINTED-clause-first_wrong : goal.returns-then-len-eq-MOST_PRINTED-clause-first_wrong
returns-then-len-eq-MOST_PRINTED-clause-first_wrong c =
    too_many_wrong c.args.m c.ranges.m.fits c.args.bytes.now c.loop-read.printed.items c.loop-read.rest.now c.loop-read.invariant c.in-Some.read.0 c.in-Some.read.1.now c.args.before _ (sym c.in-Some.ensures)
    (omega (arith, c.if-len-eq-MOST_PRINTED.true, c.len.ensures)) (omega (arith, c.if-len-eq-MOST_PRINTED.true, c.len.ensures))

pub returns-in_default-ended_line-clause-first_wrong : goal.returns-in_default-ended_line-clause-first_wrong
returns-in_default-ended_line-clause-first_wrong c =
    no_end_wrong c.args.m c.ranges.m.fits c.args.bytes.now c.loop-read.printed.items c.loop-read.rest.now c.loop-read.invariant c.args.before _ (sym c.in_default.ensures) (sym c.in_default-ended_line.ensures) (omega arith)
