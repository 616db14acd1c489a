use Rattle.std.proofs.Common.{take, sym, subst, ◌∙◌, arith}
use Rattle.plain_heap.specs.declared.mark.Mark.TheVariants.{Step}
use Rattle.plain_heap.specs.Order.{Story, first_story, opening, story}
use Rattle.plain_machine.specs.Search.{Keeps}
use Rattle.plain_heap.proofs.Orders.NoCells.{first-none, opening-none, story_after-none}
use Rattle.plain_heap.proofs.Orders.Stories.{story_after-more}
use Rattle.plain_heap.proofs.Reaching.Emptying.{none-to_empty}
use Rattle.plain_heap.proofs.States.Reached.{plain-consistent}
use Rattle.plain_heap.proofs.States.SameMutators.{plain_count}
use Rattle.plain_machine.proofs.order.plain_run.Goals as goal

pub loop-mark-init : goal.loop-mark-init
loop-mark-init c =
    let code = c.args.p.now.code in (
      record { now_is = c.in_ok-run.ensures.now; cells_are = c.in_ok-run.ensures.lost ∙ sym (none-to_empty (opening code) (opening-none code)) },
      c.in_ok-run.ensures.weak,
    )

pub apply-requires-clause-consistent : goal.apply-requires-clause-consistent
apply-requires-clause-consistent c =
    rw c.loop-mark.invariant.0.now_is (plain-consistent c.args.p.now.code c.args.turns (take c.loop-mark.mark-index c.args.order.now) c.args.p.now.well_formed.instrs)

pub apply-requires-clause-few : goal.apply-requires-clause-few
apply-requires-clause-few c =
    let few = c.args.p.now.well_formed.few_sections in
    let count = plain_count c.args.p.now.code c.args.turns (take c.loop-mark.mark-index c.args.order.now) in
    rw c.loop-mark.invariant.0.now_is (omega (arith, few, count))

pub apply-requires-clause-none : goal.apply-requires-clause-none
apply-requires-clause-none c = λ weak.
    let code = c.args.p.now.code in
    let without = sym c.loop-mark.invariant.1 ∙ weak in
    let none = story_after-none code c.args.turns without (first_story code) (take c.loop-mark.mark-index c.args.order.now) (first-none code c.args.turns without) in
    rw c.loop-mark.invariant.0.now_is (none-to_empty _ none.now)

pub loop-mark-preserved : goal.loop-mark-preserved
loop-mark-preserved c =
    let code = c.args.p.now.code in
    let before = story code c.args.turns (take c.loop-mark.mark-index c.args.order.now) in (
      subst (λ (s : Story). Keeps s c.apply.new.self.now c.apply.new.self.lost.items)
          (sym (story_after-more code c.args.turns (first_story code) c.args.order.now c.loop-mark.mark-index (Step 0) c.loop-mark-test.true))
          (c.in_ok-apply.ensures.follows before c.loop-mark.invariant.0),
      c.in_ok-apply.ensures.weak ∙ c.loop-mark.invariant.1,
    )
