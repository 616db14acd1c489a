-- Calls that need no record.
use Rattle.std.proofs.Common.{◌≡◌, ℕ, ◌<◌, Bool, true, false, [], ◌∷◌, Option, Some, refl, ap, subst, arith}
use Rattle.std.specs.Prelude.{nat_eq}
use Rattle.std.specs.Option.{option_eq}
use Rattle.plain_state.specs.declared.sizes.TheConstants.{REGISTERS}
use Rattle.plain_state.specs.declared.value.Value.{Value}
use Rattle.plain_state.specs.declared.value.Value.TheVariants.{Number}
use Rattle.plain_state.specs.Operation.{one_if}
use Rattle.plain_state.specs.State.{Heap}
use Rattle.mutator_asm.specs.declared.instr.Instr.{Instr}
use Rattle.mutator_asm.specs.declared.instr.Instr.TheVariants as instrs
use Rattle.plain_heap.specs.Action.{are_same}
use Rattle.plain_heap.proofs.Calls.Single.{call-eq, call-li, call-mov}
use Rattle.gc_worker.proofs.Plain.RecordsMade.{made_of}
use Rattle.ael_threads.specs.Seats.{Seated}
use Rattle.ael_runtime.specs.declared.root.Root.{Root}
use Rattle.ael_runtime.specs.declared.root.Root.TheVariants.{R0}
use Rattle.ael_runtime.specs.declared.root.TheConstants.{SCRATCH}
use Rattle.ael_runtime.specs.Calling.{HadEffect, IsSure, HadEffects, done}
use Rattle.ael_runtime.specs.Reading.{held, number, root_register, seen_mutator}
use Rattle.ael_runtime.proofs.Effects.{Sets, sets}
use Rattle.ael_runtime.proofs.PlainCalls.{is_done}

-- a root is none of the registers that the runtime keeps
pub root_below : (r : Root) → root_register r < 5
root_below R0 = omega arith
root_below _ = omega arith

pub root_within : (r : Root) (d : ℕ) → d ≡ root_register r → d < REGISTERS
root_within r d is = let below = root_below r in omega (arith, below, is)

-- one call that left a value in register d
pub leaves_one : (a b : Seated) (i : Instr) (e : HadEffect a i b) (d : ℕ) (v : Value) (heap : Heap) → Sets a d v heap b → HadEffects a (done i ∷ []) d b
leaves_one a b i e d v heap s = record { called = (b, (e.called, refl)); had_no_end = e.had_no_end; no_end = e.called.ends; others = λ j other scratch. s.others j other }

-- ---- li

pub sure_li : (a : Seated) (d n : ℕ) → IsSure a (instrs.Li d n)
sure_li a d n = record {
  other = λ e. absurd (cc);
  no_record = λ k. made_of k (instrs.Li d n);
  ok = λ heap at. is_done _ _ (call-li (number a) heap (seen_mutator a) d n);
}

pub li_sets : (a b : Seated) (d n : ℕ) (e : HadEffect a (instrs.Li d n) b) → d < REGISTERS → Sets a d (Number n) e.heap b
li_sets a b d n e within = sets a b (instrs.Li d n) e d (Number n) e.heap within (call-li (number a) e.heap (seen_mutator a) d n)

-- ---- mov

pub sure_mov : (a : Seated) (d s : ℕ) → IsSure a (instrs.Mov d s)
sure_mov a d s = record {
  other = λ e. absurd (cc);
  no_record = λ k. made_of k (instrs.Mov d s);
  ok = λ heap at. is_done _ _ (call-mov (number a) heap (seen_mutator a) d s);
}

pub mov_sets : (a b : Seated) (d s : ℕ) (e : HadEffect a (instrs.Mov d s) b) → d < REGISTERS → Sets a d (held a s) e.heap b
mov_sets a b d s e within = sets a b (instrs.Mov d s) e d (held a s) e.heap within (call-mov (number a) e.heap (seen_mutator a) d s)

-- ---- eq

pub sure_eq : (a : Seated) (d x y : ℕ) → IsSure a (instrs.Eq d x y)
sure_eq a d x y = record {
  other = λ e. absurd (cc);
  no_record = λ k. made_of k (instrs.Eq d x y);
  ok = λ heap at. is_done _ _ (call-eq (number a) heap (seen_mutator a) d x y);
}

pub eq_sets : (a b : Seated) (d x y : ℕ) (e : HadEffect a (instrs.Eq d x y) b) → d < REGISTERS → Sets a d (Number (one_if (are_same (held a x) (held a y)))) e.heap b
eq_sets a b d x y e within =
    sets a b (instrs.Eq d x y) e d (Number (one_if (are_same (held a x) (held a y)))) e.heap within (call-eq (number a) e.heap (seen_mutator a) d x y)

-- ---- of roots

-- with the registers of roots in place of numbers that are equal to these
module _ (a b : Seated) (to : Root) (d : ℕ) (is : d ≡ root_register to) where
  pub number_set : (n : ℕ) → HadEffect a (instrs.Li d n) b → (held b (root_register to) ≡ Number n) × HadEffects a (done (instrs.Li (root_register to) n) ∷ []) (root_register to) b
  number_set n was =
      let e : HadEffect a (instrs.Li (root_register to) n) b = subst (λ (r : ℕ). HadEffect a (instrs.Li r n) b) is was in
      let s = li_sets a b (root_register to) n e (root_within to (root_register to) refl) in
      (s.value, leaves_one a b (instrs.Li (root_register to) n) e (root_register to) (Number n) e.heap s)

  pub copied : (from : Root) (f : ℕ) → f ≡ root_register from → HadEffect a (instrs.Mov d f) b
      → (held b (root_register to) ≡ held a (root_register from)) × HadEffects a (done (instrs.Mov (root_register to) (root_register from)) ∷ []) (root_register to) b
  copied from f f_is was =
      let e : HadEffect a (instrs.Mov (root_register to) (root_register from)) b = subst (λ (r : ℕ). HadEffect a (instrs.Mov r (root_register from)) b) is (subst (λ (r : ℕ). HadEffect a (instrs.Mov d r) b) f_is was) in
      let s = mov_sets a b (root_register to) (root_register from) e (root_within to (root_register to) refl) in
      (s.value, leaves_one a b (instrs.Mov (root_register to) (root_register from)) e (root_register to) (held a (root_register from)) e.heap s)

-- ---- the same

pub compared : (a b : Seated) (one other : Root) (x y : ℕ) → x ≡ root_register one → y ≡ root_register other → HadEffect a (instrs.Eq SCRATCH x y) b
    → (held b SCRATCH ≡ Number (one_if (are_same (held a (root_register one)) (held a (root_register other))))) × HadEffects a (done (instrs.Eq SCRATCH (root_register one) (root_register other)) ∷ []) SCRATCH b
compared a b one other x y x_is y_is was =
    let e : HadEffect a (instrs.Eq SCRATCH (root_register one) (root_register other)) b = subst (λ (r : ℕ). HadEffect a (instrs.Eq SCRATCH r (root_register other)) b) x_is (subst (λ (r : ℕ). HadEffect a (instrs.Eq SCRATCH x r) b) y_is was) in
    let s = eq_sets a b SCRATCH (root_register one) (root_register other) e (omega arith) in
    (s.value, leaves_one a b (instrs.Eq SCRATCH (root_register one) (root_register other)) e SCRATCH (Number (one_if (are_same (held a (root_register one)) (held a (root_register other))))) e.heap s)

-- the number that tells it
pub one_told : (x : Bool) (o : Option ℕ) → o ≡ Some (one_if x) → option_eq nat_eq o (Some 1) ≡ x
one_told true o is = ap (λ (p : Option ℕ). option_eq nat_eq p (Some 1)) is
one_told false o is = ap (λ (p : Option ℕ). option_eq nat_eq p (Some 1)) is
