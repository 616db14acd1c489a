-- A step that answers a task leaves the other mutators of the plain state as they were.
use Rattle.std.proofs.Common.{◌≡◌, ◌≢◌, ℕ, [], ◌∷◌, ◌++◌, length, slice_get, Option, Some, None, Result, Ok, Err, refl, sym, ap, subst, length-set, get_or-set_other}
use Rattle.plain_state.specs.declared.end.End.{End}
use Rattle.plain_state.specs.State.{Mutator, Plain, Record, made_by, serial_of}
use Rattle.plain_state.proofs.Elements.{slice_get-set_other}
use Rattle.mutator_asm.specs.declared.instr.Instr.{Instr}
use Rattle.plain_heap.specs.Action.{action}
use Rattle.plain_heap.specs.Call.{After, call, filled}
use Rattle.plain_heap.specs.Calls.{IsMadeBy}
use Rattle.plain_heap.specs.Step.{ended, new_record, settled}
use Rattle.plain_heap.proofs.Calls.Rest.{call-others, call-count, call-makes, call-none, new_record-made}
use Rattle.gc_worker.specs.declared.task.Task.{Task}
use Rattle.gc_worker.specs.declared.task.Task.TheVariants.{Calls, Stops}
use Rattle.gc_worker.specs.Plain.Answer.{after_answer, after_outcome}
use Rattle.gc_worker.specs.Laws.Between.{AnswersLeaveTheOthers, LeavesTheOthers}
use Rattle.gc_worker.specs.declared.calls.did.Did.{Did}
use Rattle.gc_worker.specs.declared.calls.did.Did.TheVariants.{Done, Trap}
use Rattle.gc_worker.specs.Steps.Turned.{Silent, Empties, Answers, Marks}
use Rattle.gc_worker.proofs.Plain.CellTargets.Emptied.{same_others}

module _ (p : Plain) (k : ℕ) where
  as_it_was : LeavesTheOthers p p k
  as_it_was = record { as_many = refl; mutator = λ j d. refl; serial = λ j d. refl }

  with_end : (q : Mutator) (why : End) → LeavesTheOthers p (ended p k q why) k
  with_end q why = record {
    as_many = length-set p.mutators k (record q { end = Some why });
    mutator = λ j d. slice_get-set_other p.mutators k j (record q { end = Some why }) d;
    serial = λ j d. refl;
  }

  module _ (q : Mutator) (instr : Instr) (j : ℕ) (d : j ≢ k) where
    abbrev Kept : Result After End → Type 0
    Kept r = serial_of (settled p k q r).heap j ≡ serial_of p.heap j

    -- a record is made by the mutator itself
    by_made : (r : Record) → IsMadeBy (action q instr) r → Kept (call k p.heap q instr)
    by_made r m = subst Kept (sym (call-makes k p.heap q instr m.kind m.register m.len m.value m.makes).0) (ap length (get_or-set_other p.heap.records k j (made_by p.heap k ++ filled m.kind m.len m.value ∷ []) [] d))

    by_record : (made : Option Record) → new_record q instr ≡ made → (r : Result After End) → call k p.heap q instr ≡ r → Kept r
    by_record made is (Err why) comes = refl
    by_record None is (Ok after) comes = call-none k j p.heap q instr after is comes
    by_record (Some r) is (Ok after) comes = subst Kept comes (by_made r (new_record-made q instr r is))

    serial : Kept (call k p.heap q instr)
    serial = by_record (new_record q instr) refl (call k p.heap q instr) refl

  by_call : (q : Mutator) (instr : Instr) → LeavesTheOthers p (settled p k q (call k p.heap q instr)) k
  by_call q instr = record { as_many = call-count p k q instr; mutator = λ j d. call-others p k j q instr d; serial = λ j d. serial q instr j d }

  by_outcome : (q : Mutator) (task : Task) (outcome : Did) → LeavesTheOthers p (after_outcome p k q task outcome) k
  by_outcome q (Calls instr) Done = by_call q instr
  by_outcome q (Stops end) Done = as_it_was
  by_outcome q task (Trap end) = with_end q end

  by_answer : (task : Task) (outcome : Did) (mutator : Option Mutator) → LeavesTheOthers p (after_answer p k task outcome mutator) k
  by_answer task outcome (Some q) = by_outcome q task outcome
  by_answer task outcome None = as_it_was

pub answers_leave_the_others : AnswersLeaveTheOthers
answers_leave_the_others empty p k Silent = as_it_was p k
answers_leave_the_others empty p k Empties = same_others p empty k
answers_leave_the_others empty p k (Answers task outcome) = by_answer p k task outcome (slice_get p.mutators k)
answers_leave_the_others empty p k (Marks asked) = as_it_was p k
