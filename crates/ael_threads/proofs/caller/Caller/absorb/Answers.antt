use Rattle.std.proofs.Common.{arith, sym, ◌∙◌, ap, subst}
use mathlib.Core.Option.{none}
use mathlib.Core.List.{IsPrefix}
use Rattle.atomic_table.specs.Table.{step}
use Rattle.crossbeam_utils.specs.Padded.{padded_value}
use Rattle.ael_threads.specs.declared.view.View.{View}
use Rattle.ael_threads.specs.Seats.{Absorbs, Me, Seated}
use Rattle.ael_threads.proofs.Lists.Elements.{prefix_self}
use Rattle.ael_threads.proofs.WorkerSeats.Joined.{joins, learns}
use Rattle.ael_threads.proofs.WholeCalls.BetweenSteps.{absorbed, absorbed_heads, absorbs, still_live}
use Rattle.ael_threads.proofs.caller.Caller.absorb.Goals as goal

pub join_seat-requires : goal.join_seat-requires
join_seat-requires c = (
  ap (λ (z : Seated). z.table) c.self.view_is ∙ c.requires.mine,
  ap (λ (z : Seated). z.table) c.other.view_is ∙ c.requires.other,
  c.other.invariant.0,
  c.args.h.now.some,
  joins _ _ _ _ _,
)

pub load-requires : goal.load-requires
load-requires c = let live = c.self.invariant.2.0 in let both = ap (λ (z : Me). z.0.plan.spaces.pages) c.join_seat.ensures.2 in (
  c.join_seat.ensures.0 ∙ (ap (λ (z : Seated). z.table) c.self.view_is ∙ c.requires.mine),
  c.args.h.now.some,
  learns _ _ _ _ (step 0 0 0 0 none) (omega (arith, live, both)),
)

pub invariant_of-self : goal.invariant_of-self
invariant_of-self c =
    let v : View = c.self.inside.seat.me.0 in
    let u : View = c.other.inside.seat.me.0 in
    let w : View = c.load.new.seat.me.0 in
    let a = absorbs v u c.join_seat.new.seat.me.0 w c.self.invariant.5 c.other.invariant.5 (ap (λ (z : Me). z.0) c.join_seat.ensures.2) c.load.ensures.2.1 in
    let shown = absorbed v u w (padded_value c.self.inside.worker) c.self.invariant.1 c.self.invariant.3 c.self.invariant.4 a in (
      c.load.ensures.2.0 ∙ (ap (λ (z : Me). z.1) c.join_seat.ensures.2 ∙ c.self.invariant.0),
      absorbed_heads v u w (padded_value c.self.inside.worker) c.self.invariant.1 a,
      still_live _ _ v w (c.load.ensures.0 ∙ c.join_seat.ensures.0) a.plan c.self.invariant.2,
      shown.0,
      shown.1,
      subst (IsPrefix w.seen) (sym a.hears) (prefix_self w.seen),
    )

pub returns-clause-both : goal.returns-clause-both
returns-clause-both c =
    subst (λ (z : Seated × Seated). Absorbs z.0.knows z.1.knows c.load.new.seat.me.0) (λ i. (c.self.view_is i, c.other.view_is i))
    (absorbs c.self.inside.seat.me.0 c.other.inside.seat.me.0 c.join_seat.new.seat.me.0 c.load.new.seat.me.0 c.self.invariant.5 c.other.invariant.5 (ap (λ (z : Me). z.0) c.join_seat.ensures.2) c.load.ensures.2.1)
