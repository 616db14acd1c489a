use Rattle.std.proofs.lemmas.Grind.{common_steps}
use Rattle.std.proofs.Common.{arith, refl, sym, ap, ◌∙◌}
use Rattle.std.proofs.Math.Bool.{and-false}
use Rattle.std.specs.Option.{is_some}
use Rattle.mutator_asm.specs.Item.{item_of}
use Rattle.mutator_asm.specs.Line.{is_item_token, schedules_of}
use Rattle.program_text.proofs.Lists.Views.{kept_more, all_more, not_all}
use Rattle.program_text.proofs.text.line.schedules.Goals as goal

pub returns-in-None : goal.returns-in-None
unfolding schedules_of
returns-in-None c =
    let none = ap is_some (sym c.in-None.ensures) in
    rw (not_all is_item_token (λ t. t.now) c.args.operands.now c.loop-operand.operand-index _ c.loop-operand-test.true none, and-false) refl

pub loop-operand-preserved : goal.loop-operand-preserved
loop-operand-preserved c = record {
  items = c.in_ok-push-in-Some.ensures.items ∙ kept_more item_of (λ t. t.now) c.args.operands.now c.loop-operand.operand-index _ _ c.in-Some.item c.loop-operand-test.true c.loop-operand.invariant.items (sym c.in-Some.ensures);
  all = all_more is_item_token (λ t. t.now) c.args.operands.now c.loop-operand.operand-index _ c.loop-operand-test.true c.loop-operand.invariant.all (ap is_some (sym c.in-Some.ensures));
}

pub returns : goal.returns
unfolding schedules_of
returns c = grind (arith, common_steps)
