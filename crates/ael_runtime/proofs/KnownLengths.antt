-- What is known of a record's length stays known while its register is left alone.
use Rattle.std.proofs.Common.{◌≡◌, ◌≢◌, ℕ, ◌<◌, ◌≤◌, inl, inr, ◌⊎◌, true, Option, Some, None, refl, ap, sym, ◌∙◌, subst, arith, get_or-set_other}
use Rattle.std.specs.Prelude.{⊤, IfOk, nat_eq, not}
use Rattle.std.proofs.lemmas.Bool.{cases_lt, eqb-false, not-true}
use Rattle.plain_state.specs.declared.value.Value.TheVariants.{Number}
use Rattle.plain_state.specs.State.{Heap, Mutator, record_of}
use Rattle.mutator_asm.specs.declared.instr.Instr.{Instr}
use Rattle.mutator_asm.specs.declared.instr.Instr.TheVariants as instrs
use Rattle.mutator_asm.specs.declared.operand.Operand.{Operand}
use Rattle.plain_heap.specs.declared.action.Action.{Action}
use Rattle.plain_heap.specs.declared.action.Action.TheVariants.{Loads, Stores}
use Rattle.plain_heap.specs.Action.{action, operand, reference_in, register}
use Rattle.plain_heap.specs.Call.{After, call, loads, performed, store_in, value_in}
use Rattle.plain_heap.proofs.Calls.CallOutcomes.{if_ok-bind, if_ok-is, if_ok-then}
use Rattle.plain_heap.proofs.Calls.Single.{call-li, call-mov}
use Rattle.gc_worker.specs.declared.calls.did.Did.{Did}
use Rattle.gc_worker.specs.declared.calls.did.Did.TheVariants.{Done}
use Rattle.ael_threads.specs.Seats.{Seated}
use Rattle.ael_runtime.specs.declared.measured.Measured.{Measured}
use Rattle.ael_runtime.specs.Calling.{HadEffect}
use Rattle.ael_runtime.specs.KnownLengths.{StaysKnown, IsKnown, SparesRegister}
use Rattle.ael_runtime.specs.Reading.{SeesSame, held, len_of, seen_heap, seen_mutator}
use Rattle.ael_runtime.proofs.Effects.{after_same}
use Rattle.ael_runtime.proofs.Lengths.{len_stays}

-- ---- instructions that leave a register

pub spares_li : (d n r : ℕ) → r ≢ d → SparesRegister (instrs.Li d n) r
spares_li d n r other m heap k after is =
    ap (λ (x : After). register x.mutator r) (after_same _ after (loads heap k d (Number n)) is (call-li m heap k d n)) ∙ get_or-set_other k.registers d r (Number n) (Number 0) other

pub spares_mov : (d a r : ℕ) → r ≢ d → SparesRegister (instrs.Mov d a) r
spares_mov d a r other m heap k after is =
    ap (λ (x : After). register x.mutator r) (after_same _ after (loads heap k d (register k a)) is (call-mov m heap k d a)) ∙ get_or-set_other k.registers d r (register k a) (Number 0) other

module _ (r m : ℕ) (heap : Heap) (k : Mutator) where
  abbrev IsLeft : After → Type 0
  IsLeft after = register after.mutator r ≡ register k r

  module _ (d a : ℕ) (x : Operand) (other : r ≢ d) where
    abbrev LoadsTo : Action → Type 0
    LoadsTo (Loads e i y) = e ≡ d
    LoadsTo act = ⊥

    loads_leave : (act : Action) → LoadsTo act → IfOk (performed m heap k act) IsLeft
    loads_leave (Loads e i y) is = if_ok-bind IsLeft (value_in heap i y) _ (λ v. get_or-set_other k.registers e r v (Number 0) (λ q. other (q ∙ is)))
    loads_leave _ void = absurd void

    ld_leaves : IfOk (call m heap k (instrs.Ld d a x)) IsLeft
    unfolding call action
    ld_leaves = if_ok-then LoadsTo IsLeft (action k (instrs.Ld d a x)) (performed m heap k)
        (if_ok-bind LoadsTo (reference_in (register k a)) _ (λ i. if_ok-bind LoadsTo (operand k x) _ (λ y. refl))) loads_leave

  module _ (a b : ℕ) (x : Operand) where
    abbrev IsStore : Action → Type 0
    IsStore (Stores i y v) = ⊤
    IsStore act = ⊥

    stores_leave : (act : Action) → IsStore act → IfOk (performed m heap k act) IsLeft
    stores_leave (Stores i y v) is = if_ok-bind IsLeft (value_in heap i y) _ (λ old. if_ok-bind IsLeft (store_in heap i (record_of heap i) y v) _ (λ h. refl))
    stores_leave _ void = absurd void

    st_leaves : IfOk (call m heap k (instrs.St a x b)) IsLeft
    unfolding call action
    st_leaves = if_ok-then IsStore IsLeft (action k (instrs.St a x b)) (performed m heap k)
        (if_ok-bind IsStore (reference_in (register k a)) _ (λ i. if_ok-bind IsStore (operand k x) _ (λ y. tt))) stores_leave

pub spares_ld : (d a : ℕ) (x : Operand) (r : ℕ) → r ≢ d → SparesRegister (instrs.Ld d a x) r
spares_ld d a x r other m heap k after is = if_ok-is (IsLeft r m heap k) _ after (ld_leaves r m heap k d a x other) is

pub spares_st : (a : ℕ) (x : Operand) (b r : ℕ) → SparesRegister (instrs.St a x b) r
spares_st a x b r m heap k after is = if_ok-is (IsLeft r m heap k) _ after (st_leaves r m heap k a b x) is

-- one of those that set a register, which is another one
pub spares_set : (instr : Instr) (to r : ℕ)
    → ((n : ℕ) × (instr ≡ instrs.Li to n)) ⊎ (((a : ℕ) × (instr ≡ instrs.Mov to a)) ⊎ ((a : ℕ) × (x : Operand) × (instr ≡ instrs.Ld to a x)))
    → not (nat_eq to r) ≡ true → SparesRegister instr r
spares_set instr to r is told = by_instr is
  where
    other : r ≢ to
    other e = eqb-false to r (not-true (nat_eq to r) told) (sym e)

    by_instr : ((n : ℕ) × (instr ≡ instrs.Li to n)) ⊎ (((a : ℕ) × (instr ≡ instrs.Mov to a)) ⊎ ((a : ℕ) × (x : Operand) × (instr ≡ instrs.Ld to a x))) → SparesRegister instr r
    by_instr (inl (n, e)) = subst (λ (i : Instr). SparesRegister i r) (sym e) (spares_li to n r other)
    by_instr (inr (inl (a, e))) = subst (λ (i : Instr). SparesRegister i r) (sym e) (spares_mov to a r other)
    by_instr (inr (inr (a, x, e))) = subst (λ (i : Instr). SparesRegister i r) (sym e) (spares_ld to a x r other)

-- ---- what is known

module _ (a b : Seated) where
  -- a register that is left leads to a record as long as before
  len_kept : (instr : Instr) (r len : ℕ) → held b r ≡ held a r → HadEffect a instr b → len ≤ len_of (seen_heap a) (held a r) → len ≤ len_of (seen_heap b) (held b r)
  len_kept instr r len same e known = by_len (cases_lt 0 len)
    where
      by_len : (0 < len) ⊎ (len ≤ 0) → len ≤ len_of (seen_heap b) (held b r)
      by_len (inr none) = omega (arith, none)
      by_len (inl some) =
          let stays : len_of (seen_heap b) (held a r) ≡ len_of (seen_heap a) (held a r) = len_stays (seen_heap a) (seen_heap b) e.shapes (held a r) 0 (omega (arith, some, known)) in
          let then = ap (len_of (seen_heap b)) same in
          omega (arith, known, stays, then)

  pub known_then : (instr : Instr) (did : Did) (before after : Option Measured) → StaysKnown before instr did after → IsKnown before a → (did ≡ Done → HadEffect a instr b) → IsKnown after b
  known_then instr did before None kept known executed = tt
  known_then instr did before (Some measured) kept known executed =
      let e : HadEffect a instr b = executed kept.1 in
      let at_first : IsKnown (Some measured) a = subst (λ (o : Option Measured). IsKnown o a) kept.0 known in
      let same : held b measured.register ≡ held a measured.register =
      ap (λ (k : Mutator). register k measured.register) e.mutator_is ∙ kept.2 _ e.heap (seen_mutator a) e.after e.is in
      (e.called.ends, len_kept instr measured.register measured.len same e at_first.1)

  -- nor does it change while the mutator makes no call
  pub known_silent : (known : Option Measured) → SeesSame a b → IsKnown known a → IsKnown known b
  known_silent None same is = tt
  known_silent (Some measured) same is = (
    same.end ∙ is.0,
    subst (λ (n : ℕ). measured.len ≤ n) (λ i. len_of (sym same.heap i) (register (sym same.mutator i) measured.register)) is.1,
  )
