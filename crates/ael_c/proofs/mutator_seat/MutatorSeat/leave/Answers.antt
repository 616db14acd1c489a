use Rattle.std.proofs.Common.{◌∙◌, refl, sym, subst}
use Rattle.std.specs.Prelude.{is_some}
use Rattle.gc_worker.specs.declared.task.Task.TheVariants.{Calls}
use Rattle.mutator_asm.specs.declared.instr.Instr.TheVariants.{Halt}
use Rattle.ael_threads.specs.ActsInRow.{MakesSome, is_answer}
use Rattle.ael_threads.specs.Seats.{Acts, Seated}
use Rattle.ael_threads.proofs.WholeCalls.FromActs.{halt_may_begin, under_way}
use Rattle.ael_c.specs.declared.answer.Answer.TheVariants.{Again}
use Rattle.ael_c.specs.Answers.{answer_by}
use Rattle.ael_c.specs.Calls.{Leaves}
use Rattle.ael_c.proofs.Cases.{has_begun, is_idle, leaves_calling, leaves_halting}
use Rattle.ael_c.proofs.mutator_seat.MutatorSeat.leave.Goals as goal

pub begin-requires-clause-may_begin : goal.begin-requires-clause-may_begin
begin-requires-clause-may_begin c = halt_may_begin c.self.inside.mutator.worker.account c.self.inside.mutator.worker.registers

pub returns-then-is_calling : goal.returns-then-is_calling
returns-then-is_calling c =
    let m = c.self.inside.mutator in
    let b = c.tries.new.self in
    subst (λ (a : Seated). Leaves a c.leaving.result b) c.self.view_is
    (leaves_calling m b c.leaving.result (sym c.ended.ensures.ended ∙ c.in_default.is) (sym c.is_calling.ensures ∙ c.if-is_calling.true)
    (record { did = c.tries.result; told = c.leaving.ensures; tries = c.tries.ensures.tries; acts = c.tries.ensures.acts }))

pub returns : goal.returns
returns c =
    let m = c.self.inside.mutator in
    let b = c.tries-2.new.self in
    let begun = has_begun m c.begin.new.self (Calls Halt) c.begin.ensures.begun c.begin.ensures.same.0 c.begin.ensures.same.1 in
    let under = under_way m c.begin.new.self (Calls Halt) c.begin.ensures.begun c.begin.ensures.same.1 c.begin.ensures.looks_first in
    subst (λ (a : Seated). Leaves a Again b) c.self.view_is
    (leaves_halting m b Again (sym c.ended.ensures.ended ∙ c.in_default.is) (is_idle m.worker.task (sym c.is_calling.ensures ∙ c.if-is_calling.false))
    (record {
      told = refl;
      came = answer_by c.tries-2.result;
      acts = record {
        did = c.tries-2.result;
        told = refl;
        tries = c.tries-2.ensures.tries m (Calls Halt) under;
        acts = subst (λ (x : Seated). MakesSome Acts is_answer (is_some c.tries-2.result) x b) begun c.tries-2.ensures.acts;
      };
    }))
