use Rattle.std.proofs.Common.{◌∙◌, sym, subst}
use Rattle.std.specs.Prelude.{is_some}
use Rattle.gc_worker.specs.declared.task.Task.TheVariants.{Calls}
use Rattle.ael_threads.specs.ActsInRow.{MakesSome, is_answer}
use Rattle.ael_threads.specs.Seats.{Acts, Seated}
use Rattle.ael_threads.proofs.Refusals.{may_be_begun}
use Rattle.ael_threads.proofs.WholeCalls.FromActs.{under_way}
use Rattle.ael_c.specs.Calls.{MakesCall}
use Rattle.ael_c.proofs.Cases.{has_begun, makes_acts}
use Rattle.ael_c.proofs.mutator_seat.MutatorSeat.call.Goals as goal

pub begin-requires-clause-may_begin : goal.begin-requires-clause-may_begin
begin-requires-clause-may_begin c = (may_be_begun c.self.inside.mutator c.in-Some.instr (sym c.refusal.ensures ∙ c.in_default-refusal.is)).may_begin

pub returns : goal.returns
returns c =
    let m = c.self.inside.mutator in
    let b = c.tries.new.self in
    let instr = c.in-Some.instr in
    let begun = has_begun m c.begin.new.self (Calls instr) c.begin.ensures.begun c.begin.ensures.same.0 c.begin.ensures.same.1 in
    let under = under_way m c.begin.new.self (Calls instr) c.begin.ensures.begun c.begin.ensures.same.1 c.begin.ensures.looks_first in
    subst (λ (a : Seated). MakesCall c.args.instr a c.by.result b) c.self.view_is
    (makes_acts m b c.by.result c.args.instr instr c.in-Some.is (sym c.refusal.ensures ∙ c.in_default-refusal.is)
    (record {
      did = c.tries.result;
      told = c.by.ensures;
      tries = c.tries.ensures.tries m (Calls instr) under;
      acts = subst (λ (x : Seated). MakesSome Acts is_answer (is_some c.tries.result) x b) begun c.tries.ensures.acts;
    }))

pub begin-requires-clause-may_execute : goal.begin-requires-clause-may_execute
begin-requires-clause-may_execute c = (may_be_begun c.self.inside.mutator c.in-Some.instr (sym c.refusal.ensures ∙ c.in_default-refusal.is)).may_execute
