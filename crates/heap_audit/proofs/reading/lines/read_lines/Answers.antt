use Rattle.std.proofs.Common.{◌∷◌, [], map, arith}
use Rattle.std.proofs.lemmas.List.{map-append}
use Rattle.heap_audit.specs.Texts.Lines.{seen_by}
use Rattle.heap_audit.proofs.Texts.AllLines.{goes_on, fails, fails_wrong, all_only, count_one_more}
use Rattle.heap_audit.proofs.reading.lines.read_lines.Goals as goal

pub returns-in_err-lines-clause-only : goal.returns-in_err-lines-clause-only
returns-in_err-lines-clause-only c =
    fails c.args.mutators c.args.bytes.now c.loop-m.all.items c.loop-m.m c.loop-m.rest.now c.loop-m.invariant.read _ _ c.in_err-lines.field-0.0 c.from_residual.ensures.1 c.loop-m-test.true c.in_err-lines.ensures.only

pub returns-in_err-lines-clause-first_wrong : goal.returns-in_err-lines-clause-first_wrong
returns-in_err-lines-clause-first_wrong c =
    fails_wrong c.args.mutators c.args.bytes.now (map seen_by c.loop-m.all.items) c.loop-m.m c.loop-m.rest.now c.loop-m.count _ c.in_err-lines.field-0.0 c.from_residual.ensures.1 (omega arith) c.loop-m-test.true c.loop-m.invariant.read c.loop-m.invariant.counted c.in_err-lines.ensures.first_wrong

pub loop-m-preserved : goal.loop-m-preserved
loop-m-preserved c =
    rw c.in_ok-push.ensures.items
    (record {
      read = goes_on c.args.mutators c.args.bytes.now c.loop-m.all.items c.loop-m.m c.loop-m.rest.now c.loop-m.invariant.read c.in_ok-lines.lines c.in_ok-lines.behind.now c.loop-m-test.true c.in_ok-lines.ensures.found c.in_ok-lines.ensures.only;
      few = omega (arith, c.loop-m.invariant.few, c.in_ok-lines.ensures.found.0.0);
      counted = rw (map-append seen_by c.loop-m.all.items (c.in_ok-lines.lines ∷ [])) (omega (arith, count_one_more (map seen_by c.loop-m.all.items) (seen_by c.in_ok-lines.lines), c.loop-m.invariant.counted));
    })

pub returns-clause-only : goal.returns-clause-only
returns-clause-only c =
    all_only c.args.mutators c.args.bytes.now c.loop-m.all.items c.loop-m.m c.loop-m.rest.now c.loop-m.invariant.read (omega (arith, c.loop-m-test.false, c.loop-m.auto.m-end))
