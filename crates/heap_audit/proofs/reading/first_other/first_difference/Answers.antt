use Rattle.std.proofs.Common.{eqb, get_or, sym}
use Rattle.heap_audit.proofs.Texts.FirstDifference.{few_at, goes_on_at, not_empty, stops_at, unended_at}
use Rattle.heap_audit.proofs.reading.first_other.first_difference.Goals as goal

pub returns-in_default-clause-first : goal.returns-in_default-clause-first
returns-in_default-clause-first c = stops_at c.args.wanted.now c.args.told.now c.loop-b.rest.now c.loop-b.b-index c.loop-b.line c.loop-b.invariant.alike c.loop-b-test.true (sym c.in_default.ensures)

pub loop-b-preserved : goal.loop-b-preserved
loop-b-preserved c = record {
  alike = goes_on_at c.args.wanted.now c.args.told.now c.loop-b.rest.now c.loop-b.b-index c.loop-b.line c.loop-b.invariant.alike c.in-Some.behind.now c.line_behind-line.result c.loop-b-test.true (sym c.in-Some.ensures) c.line_behind-line.ensures;
  few = few_at (eqb (get_or c.args.told.now c.loop-b.b-index 0) 10) c.loop-b.line c.line_behind-line.result c.loop-b.b-index c.line_behind-line.ensures c.loop-b.invariant.few;
}

pub returns-else-is_empty-clause-first : goal.returns-else-is_empty-clause-first
returns-else-is_empty-clause-first c =
    unended_at c.args.wanted.now c.args.told.now c.loop-b.rest.now c.loop-b.b-index c.loop-b.line c.loop-b.invariant.alike c.loop-b-test.false
    (not_empty c.loop-b.rest.now c.is_empty.result c.if-is_empty.false c.is_empty.ensures)
