use Rattle.std.proofs.Common.{ℕ, List, ap, ◌∙◌}
use Rattle.ael_jobs.proofs.Inputs.InputLines.{empty, is_divided, is_other, is_output, is_undivided, passed_none, passed_one}
use Rattle.ael_jobs.proofs.division.divided.Goals as goal

pub loop-line-init : goal.loop-line-init
loop-line-init c = passed_none c.args.input.now

pub loop-line-preserved : goal.loop-line-preserved
loop-line-preserved c =
    passed_one c.args.input.now c.loop-line.rest.now c.first_line.result.0.now c.first_line.result.1.now c.loop-line.invariant c.first_line.ensures.line
    (is_other c.first_line.result.0.now c.as_slice.result.now c.eq.result c.as_slice.ensures c.eq.ensures c.if-eq.false)

pub returns-then-eq-clause-parts : goal.returns-then-eq-clause-parts
returns-then-eq-clause-parts c =
    ap (λ (text : List ℕ). (text, c.first_line.result.1.now)) c.split_at.ensures.front
    ∙ is_divided c.args.input.now c.loop-line.rest.now c.first_line.result.0.now c.first_line.result.1.now c.loop-line.invariant c.first_line.ensures.line
    (is_output c.first_line.result.0.now c.as_slice.result.now c.eq.result c.as_slice.ensures c.eq.ensures c.if-eq.true)

pub returns-clause-parts : goal.returns-clause-parts
returns-clause-parts c = is_undivided c.args.input.now c.loop-line.rest.now c.loop-line.invariant (empty c.loop-line.rest.now c.is_empty.result c.is_empty.ensures c.loop-line-test.false)
