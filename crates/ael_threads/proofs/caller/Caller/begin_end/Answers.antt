use Rattle.std.proofs.Common.{◌∙◌, sym, ap, subst}
use Rattle.crossbeam_utils.specs.Padded.{padded_value}
use Rattle.gc_worker.specs.declared.task.Task.TheVariants.{Stops}
use Rattle.gc_worker.specs.Laws.Between.{IsIdle, with_task}
use Rattle.gc_worker.specs.Workers.Held.{Held}
use Rattle.ael_threads.specs.Seats.{Seated, first_number}
use Rattle.ael_threads.proofs.WholeCalls.Acts.{heads_fit}
use Rattle.ael_threads.proofs.WholeCalls.Began.{given_none}
use Rattle.ael_threads.proofs.WholeCalls.BetweenSteps.{begins, begun_shows}
use Rattle.ael_threads.proofs.caller.Caller.begin_end.Goals as goal

pub invariant_of-self : goal.invariant_of-self
invariant_of-self c =
    let worker : Held = padded_value c.self.inside.worker in
    let begun = c.begin_end.ensures ∙ ap (λ (w : Held). with_task w (Stops c.args.end)) c.deref_mut.ensures.value in (
      c.self.invariant.0,
      begins c.self.inside.seat.me.0.plan worker c.begin_end.new.self (Stops c.args.end) c.self.inside.seat.me.0.hands begun c.self.invariant.1 (subst (λ (z : Seated). IsIdle z.worker) (sym c.self.view_is) c.requires.idle) c.requires.may_stop,
      c.self.invariant.2,
      c.self.invariant.3,
      begun_shows worker c.begin_end.new.self (Stops c.args.end) c.self.inside.seat.me.0 begun c.self.invariant.4,
      c.self.invariant.5,
    )

pub returns-clause-looks_first : goal.returns-clause-looks_first
returns-clause-looks_first c call =
    let seat = c.self.inside.seat in
    let worker : Held = padded_value c.self.inside.worker in
    let begun = c.begin_end.ensures ∙ ap (λ (w : Held). with_task w (Stops c.args.end)) c.deref_mut.ensures.value in
    let idle = subst (λ (z : Seated). IsIdle z.worker) (sym c.self.view_is) c.requires.idle in
    given_none seat.me.0.plan.spaces.pages seat.me.0.plan.mutators (first_number seat.me.0.hands) worker c.begin_end.new.self (Stops c.args.end) (heads_fit seat.me.0.plan worker seat.me.0.hands c.self.invariant.1) idle.no_task begun call
