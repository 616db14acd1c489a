use Rattle.std.proofs.Common.{rules, ◌≡◌, Bool, true, false, cond, not, List, refl, sym, ap, ◌∙◌}
use Rattle.std.proofs.lemmas.Fn.{filter_same}
use Rattle.plain_heap.specs.declared.mark.Mark.{Mark}
use Rattle.plain_heap.specs.Order.{story}
use Rattle.plain_heap.specs.Tracing.{has_weak, is_traced, untraced}
use Rattle.plain_heap.proofs.Orders.NoCells.{tracing_needs_cells}
use Rattle.ael_jobs.proofs.runs.orders.shown_order.Goals as goal

-- in a program without `weak` this order is shown
none_shown : (without : Bool) (order : List Mark) → without ≡ false → cond without order (untraced order) ≡ untraced order
none_shown true order is = cc
none_shown false order is = refl

pub returns-then-not-has_weak-clause-shown : goal.returns-then-not-has_weak-clause-shown
returns-then-not-has_weak-clause-shown c =
    filter_same _ (λ mark. not (is_traced mark)) _ (λ x b f' k. search rules) _ _ c.retain.ensures.filtered
    ∙ sym (none_shown (has_weak c.args.code.now) c.args.order.items (search rules))

pub returns-then-not-has_weak-clause-same : goal.returns-then-not-has_weak-clause-same
returns-then-not-has_weak-clause-same c turns =
    ap (story c.args.code.now turns) (filter_same _ (λ mark. not (is_traced mark)) _ (λ x b f' k. search rules) _ _ c.retain.ensures.filtered)
    ∙ tracing_needs_cells c.args.code.now turns c.args.order.items (search rules)
