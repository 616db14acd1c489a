use Rattle.std.proofs.Common.{Bool, Some, ◌∙◌, sym, ap, subst}
use Rattle.crossbeam_utils.specs.Padded.{padded_value}
use Rattle.gc_worker.specs.declared.task.Task.TheVariants.{Calls}
use Rattle.gc_worker.specs.Laws.Between.{IsIdle, with_task}
use Rattle.gc_worker.specs.Workers.Held.{Held}
use Rattle.gc_worker.specs.Workers.Fits.{MayBegin}
use Rattle.gc_worker.specs.Steps.Stepped.{MayExecute}
use Rattle.ael_threads.specs.Seats.{Seated, first_number}
use Rattle.ael_threads.proofs.WholeCalls.Acts.{heads_fit}
use Rattle.ael_threads.proofs.WholeCalls.Began.{given_none}
use Rattle.ael_threads.proofs.WholeCalls.BetweenSteps.{begins, begun_shows, may_print}
use Rattle.ael_threads.proofs.caller.Caller.begin.Goals as goal

pub invariant_of-self : goal.invariant_of-self
invariant_of-self c =
    let worker : Held = padded_value c.self.inside.worker in
    let begun = c.begin.ensures ∙ ap (λ (w : Held). with_task w (Calls c.args.instr.now)) c.deref_mut.ensures.value in (
      c.self.invariant.0,
      begins c.self.inside.seat.me.0.plan worker c.begin.new.self (Calls c.args.instr.now) c.self.inside.seat.me.0.hands begun c.self.invariant.1 (subst (λ (z : Seated). IsIdle z.worker) (sym c.self.view_is) c.requires.idle) (subst (λ (z : Seated). MayBegin z.worker.account z.worker.registers (Some (Calls c.args.instr.now))) (sym c.self.view_is) c.requires.may_begin),
      c.self.invariant.2,
      c.self.invariant.3,
      begun_shows worker c.begin.new.self (Calls c.args.instr.now) c.self.inside.seat.me.0 begun c.self.invariant.4,
      c.self.invariant.5,
    )

pub returns-clause-looks_first : goal.returns-clause-looks_first
returns-clause-looks_first c call =
    let seat = c.self.inside.seat in
    let worker : Held = padded_value c.self.inside.worker in
    let begun = c.begin.ensures ∙ ap (λ (w : Held). with_task w (Calls c.args.instr.now)) c.deref_mut.ensures.value in
    let idle = subst (λ (z : Seated). IsIdle z.worker) (sym c.self.view_is) c.requires.idle in
    given_none seat.me.0.plan.spaces.pages seat.me.0.plan.mutators (first_number seat.me.0.hands) worker c.begin.new.self (Calls c.args.instr.now) (heads_fit seat.me.0.plan worker seat.me.0.hands c.self.invariant.1) idle.no_task begun call

pub begin-requires-clause-may_execute : goal.begin-requires-clause-may_execute
begin-requires-clause-may_execute c =
    let seat = c.self.inside.seat in
    let worker : Held = padded_value c.self.inside.worker in
    let prints = may_print seat.me.0.plan worker seat.me.0.hands c.self.invariant.1 in
    subst (λ (x : Held). MayExecute x.prints c.args.instr.now) (sym c.deref_mut.ensures.value)
    (subst (λ (b : Bool). MayExecute b c.args.instr.now) (sym prints) (subst (λ (z : Seated). MayExecute z.knows.plan.prints c.args.instr.now) (sym c.self.view_is) c.requires.may_execute))
