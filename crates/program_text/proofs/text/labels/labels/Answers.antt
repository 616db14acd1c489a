use Rattle.std.proofs.Common.{arith}
use Rattle.program_text.proofs.Texts.Labels.{place_step, place_end, weight-le}
use Rattle.program_text.proofs.text.labels.labels.Goals as goal

pub loop-at-preserved : goal.loop-at-preserved
loop-at-preserved c = record {
  few = omega (arith, weight-le _ _ c.weight-instrs.ensures);
  rest = λ name. place_step _ _ c.args.lines.now _ _ _ c.index-lines-at.result name _ c.loop-at-test.true c.index-lines-at.is c.weight-instrs.ensures (c.in_ok-keep.ensures name) (c.loop-at.invariant.rest name);
}

pub returns : goal.returns
returns c = λ name. place_end _ c.args.lines.now c.loop-at.at c.loop-at.instrs name (omega arith) (c.loop-at.invariant.rest name)
