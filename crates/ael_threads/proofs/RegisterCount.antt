-- Each mutator has all its registers, whatever calls are made.
use Rattle.std.proofs.Common.{◌≡◌, ℕ, ◌⊎◌, inl, inr, List, [], ◌∷◌, length, Option, Some, None, Result, Ok, Err, slice_get, slice_set, refl, ap, sym, ◌∙◌, length-set}
use Rattle.std.specs.Prelude.{IfOk}
use Rattle.std.proofs.lemmas.Bool.{cases_eq}
use Rattle.std.proofs.lemmas.Option.{slice_get_within}
use Rattle.plain_state.specs.declared.end.End.{End}
use Rattle.plain_state.specs.declared.sizes.TheConstants.{REGISTERS}
use Rattle.plain_state.specs.State.{Heap, Mutator, Plain, record_of}
use Rattle.plain_state.proofs.Elements.{set-found, slice_get-replicate, slice_get-set_other}
use Rattle.mutator_asm.specs.declared.instr.Instr.{Instr}
use Rattle.plain_heap.specs.declared.action.Action.{Action}
use Rattle.plain_heap.specs.declared.action.Action.TheVariants.{Loads, Stores, Compares}
use Rattle.plain_heap.specs.Action.{action}
use Rattle.plain_heap.specs.Call.{After, call, performed, store_in, value_in}
use Rattle.plain_heap.specs.Step.{settled}
use Rattle.plain_heap.proofs.Calls.CallOutcomes.{if_ok-bind, performed_exchange}
use Rattle.heap_laws.specs.Opening.{opening_mutator, opening_plain}
use Rattle.gc_worker.specs.declared.calls.did.Did.{Did}
use Rattle.gc_worker.specs.declared.calls.did.Did.TheVariants.{Done, Trap}
use Rattle.gc_worker.specs.declared.calls.entry.Entry.{Entry}
use Rattle.gc_worker.specs.declared.calls.entry.Entry.TheVariants.{Exchanged, Made, Emptied}
use Rattle.gc_worker.specs.declared.task.Task.{Task}
use Rattle.gc_worker.specs.declared.task.Task.TheVariants.{Calls, Stops}
use Rattle.gc_worker.specs.Plain.Answer.{after_answer, after_outcome, with_emptied}
use Rattle.gc_worker.specs.History.Legal.{after_all, after_call}

-- ---- an instruction

module _ (m : ℕ) (heap : Heap) (k : Mutator) where
  abbrev AsMany : After → Type 0
  AsMany a = length a.mutator.registers ≡ length k.registers

  performed-count : (act : Action) → IfOk (performed m heap k act) AsMany
  performed-count (Loads d i x) = if_ok-bind AsMany (value_in heap i x) _ (λ v. length-set k.registers d v)
  performed-count (Stores i x v) = if_ok-bind AsMany (value_in heap i x) _ (λ old. if_ok-bind AsMany (store_in heap i (record_of heap i) x v) _ (λ h. refl))
  performed-count (Compares d i x expected v) =
      performed_exchange m heap k d i x expected v AsMany (length-set k.registers d _) (if_ok-bind AsMany (store_in heap i (record_of heap i) x v) _ (λ h. length-set k.registers d _))
  performed-count _ = first_of (simp length-set, cc)

  call-count : (i : Instr) → IfOk (call m heap k i) AsMany
  unfolding call
  call-count i = if_ok-bind AsMany (action k i) (performed m heap k) performed-count

-- ---- a history

-- each mutator has all its registers
abbrev HaveRegisters : Plain → Type 0
HaveRegisters p = (j : ℕ) (k : Mutator) → slice_get p.mutators j ≡ Some k → length k.registers ≡ REGISTERS

module _ (p : Plain) (have : HaveRegisters p) (m : ℕ) (q : Mutator) (is : slice_get p.mutators m ≡ Some q) where
  -- so they have if it becomes this
  becomes : (next : Mutator) → length next.registers ≡ length q.registers → (j : ℕ) (k : Mutator) → slice_get (slice_set p.mutators m next) j ≡ Some k → length k.registers ≡ REGISTERS
  becomes next same j k at = by_number (cases_eq j m)
    where
      by_number : (j ≡ m) ⊎ (j ≡ m → ⊥) → length k.registers ≡ REGISTERS
      by_number (inl e) = ap (λ (z : Mutator). length z.registers) (sym (set-found p.mutators m j next k e (slice_get_within p.mutators m q is) at)) ∙ (same ∙ have m q is)
      by_number (inr other) = have j k (sym (slice_get-set_other p.mutators m j next other) ∙ at)

  settles : (o : Result After End) → IfOk o (AsMany m p.heap q) → HaveRegisters (settled p m q o)
  settles (Ok a) same = becomes a.mutator same
  settles (Err why) same = becomes (record q { end = Some why }) refl

  outcome_keeps : (task : Task) (did : Did) → HaveRegisters (after_outcome p m q task did)
  outcome_keeps (Calls i) Done = settles (call m p.heap q i) (call-count m p.heap q i)
  outcome_keeps (Calls i) (Trap why) = becomes (record q { end = Some why }) refl
  outcome_keeps (Stops end) Done = have
  outcome_keeps (Stops end) (Trap why) = becomes (record q { end = Some why }) refl

answer_keeps : (p : Plain) → HaveRegisters p → (m : ℕ) (task : Task) (did : Did) (o : Option Mutator) → slice_get p.mutators m ≡ o → HaveRegisters (after_answer p m task did o)
answer_keeps p have m task did (Some q) is = outcome_keeps p have m q is task did
answer_keeps p have m task did None is = have

all_keep : (p : Plain) (log : List Entry) → HaveRegisters p → HaveRegisters (after_all p log)
all_keep p [] have = have
all_keep p (Made c ∷ es) have = all_keep (after_call p c) es (answer_keeps p have c.by c.task c.did (slice_get p.mutators c.by) refl)
all_keep p (Exchanged by asked ∷ es) have = all_keep p es have
all_keep p (Emptied cells ∷ es) have = all_keep (with_emptied p cells) es have

pub have_registers : (mutators : ℕ) (log : List Entry) (j : ℕ) (k : Mutator) → slice_get (after_all (opening_plain mutators) log).mutators j ≡ Some k → length k.registers ≡ REGISTERS
have_registers mutators log = all_keep (opening_plain mutators) log
    (λ j k is. ap (λ (z : Mutator). length z.registers) (slice_get-replicate mutators j opening_mutator k is))
