-- Calls that make a record.
use Rattle.std.proofs.Common.{◌≡◌, ℕ, ◌+◌, ◌-◌, ◌<◌, ◌≤◌, ◌==◌, ◌||◌, Bool, true, false, List, [], ◌∷◌, length, None, Ok, refl, ap, sym, ◌∙◌, subst, arith, add-one}
use Rattle.std.specs.Prelude.{IsTrue, if◌then◌else◌, nat_lt}
use Rattle.std.proofs.lemmas.Bool.{eqb-true, ltb-false}
use Rattle.std.proofs.lemmas.List.{length-replicate}
use Rattle.std.proofs.lemmas.Option.{slice_get_past}
use Rattle.plain_state.specs.declared.end.End.{End}
use Rattle.plain_state.specs.declared.kind.Kind.{Kind}
use Rattle.plain_state.specs.declared.kind.Kind.TheVariants.{Fields, Raw, Mixed}
use Rattle.plain_state.specs.declared.sizes.TheConstants.{LONGEST_RECORD, REGISTERS}
use Rattle.plain_state.specs.declared.value.Identity.{Identity}
use Rattle.plain_state.specs.declared.value.Value.TheVariants.{Number, Reference}
use Rattle.plain_state.specs.State.{Heap, Mutator, Record, at_serial, made_by, record_of, serial_of}
use Rattle.plain_state.specs.Writing.{gained, zeros}
use Rattle.plain_state.proofs.Gained.{gained_there}
use Rattle.mutator_asm.specs.declared.instr.Instr.{Instr}
use Rattle.mutator_asm.specs.declared.instr.Instr.TheVariants as instrs
use Rattle.mutator_asm.specs.declared.operand.Operand.TheVariants as operands
use Rattle.mutator_asm.specs.Program.{is_valid}
use Rattle.plain_heap.specs.Alone.{is_heap_full}
use Rattle.plain_heap.specs.Call.{allocated, call}
use Rattle.plain_heap.proofs.Calls.Single.{call-mix, call-new, call-raw}
use Rattle.heap_state.specs.Known.{Account}
use Rattle.gc_worker.specs.Workers.Fits.{FitsCall}
use Rattle.ael_threads.specs.declared.mutator.refused.TheConstants.{MOST_RECORDS}
use Rattle.ael_threads.specs.Seats.{Seated}
use Rattle.ael_runtime.specs.declared.root.Root.{Root}
use Rattle.ael_runtime.specs.Calling.{HadEffect, HadEffects, WasTrapped, done}
use Rattle.ael_runtime.specs.Failing.{IsFull}
use Rattle.ael_runtime.specs.Making.{HasMade, is_too_long, kind_for, making}
use Rattle.ael_runtime.specs.Reading.{held, len_of, number, root_register, seen_heap, seen_mutator}
use Rattle.ael_runtime.proofs.Effects.{Sets, sets}
use Rattle.ael_runtime.proofs.Lengths.{len_by_record}
use Rattle.ael_runtime.proofs.NumberCalls.{leaves_one, root_within}
use Rattle.ael_runtime.proofs.PlainCalls.{ends_full, is_done}

-- no record has the serial after the last
past_last : (xs : List Record) → at_serial xs (length xs + 1) ≡ None
past_last xs = subst (λ (n : ℕ). at_serial xs n ≡ None) (sym (add-one (length xs))) (slice_get_past xs (length xs) (omega arith))

-- ---- one instruction that makes a record

module _ (a b : Seated) (i : Instr) (e : HadEffect a i b) (kind : Kind) (d len : ℕ) (into : d < REGISTERS)
    (is : call (number a) e.heap (seen_mutator a) i ≡ Ok (allocated (number a) e.heap (seen_mutator a) kind d len (Number 0))) where
  abbrev new_at : ℕ → Identity
  new_at serial = record { mutator = number a; serial = serial + 1 }

  abbrev before : ℕ
  before = serial_of (seen_heap a) (number a)

  pub made_sets : Sets a d (Reference (new_at (serial_of e.heap (number a)))) (gained e.heap (number a) (zeros kind len)) b
  made_sets = sets a b i e d (Reference (new_at (serial_of e.heap (number a)))) (gained e.heap (number a) (zeros kind len)) into is

  pub made : HasMade a kind len d b
  made = record {
    identity = new_at before;
    leads = made_sets.value ∙ ap (λ (n : ℕ). Reference (new_at n)) e.at_call.serial;
    by = refl;
    latest = refl;
    is = ap (λ (h : Heap). record_of h (new_at before)) made_sets.heap_is
        ∙ gained_there e.heap (number a) (zeros kind len) e.at_call.kept (new_at before) refl (ap (λ (n : ℕ). n + 1) (sym e.at_call.serial));
    fresh = past_last (made_by (seen_heap a) (number a));
  }

-- the length that is then known
pub made_len : (a : Seated) (kind : Kind) (len to : ℕ) (b : Seated) → HasMade a kind len to b → len_of (seen_heap b) (held b to) ≡ len
made_len a kind len to b m = ap (len_of (seen_heap b)) m.leads ∙ (len_by_record (seen_heap b) m.identity (zeros kind len) m.is ∙ length-replicate len (Number 0))

-- ---- the instruction of the runtime

-- A fact of the instruction, the kind and the length that holds in each of the three cases.
module _ (to fields numbers : ℕ) (P : Instr → Kind → ℕ → Type 0)
    (of_fields : numbers ≡ 0 → fields ≤ LONGEST_RECORD → P (instrs.New to (operands.Number fields)) Fields fields)
    (of_numbers : fields ≡ 0 → numbers ≤ LONGEST_RECORD → P (instrs.Raw to (operands.Number numbers)) Raw numbers)
    (of_both : fields + numbers < LONGEST_RECORD → P (instrs.Mix to (operands.Number fields) (operands.Number numbers)) (Mixed fields) (fields + numbers)) where
  abbrev instr_by : (none no_fields : Bool) → Instr
  instr_by none no_fields =
      if none
      then instrs.New to (operands.Number fields)
      else (if no_fields then instrs.Raw to (operands.Number numbers) else instrs.Mix to (operands.Number fields) (operands.Number numbers))

  abbrev kind_by : (none no_fields : Bool) → Kind
  kind_by none no_fields = if none then Fields else (if no_fields then Raw else Mixed fields)

  abbrev most_by : (none no_fields : Bool) → ℕ
  most_by none no_fields = if none || no_fields then LONGEST_RECORD else LONGEST_RECORD - 1

  by_tests : (none no_fields : Bool) → (numbers == 0) ≡ none → (fields == 0) ≡ no_fields → nat_lt (most_by none no_fields) (fields + numbers) ≡ false → P (instr_by none no_fields) (kind_by none no_fields) (fields + numbers)
  by_tests true no_fields none_is fields_is short =
      let none : numbers ≡ 0 = eqb-true numbers 0 none_is in
      let few = ltb-false LONGEST_RECORD (fields + numbers) short in
      let same : fields ≡ fields + numbers = omega (arith, none) in
      subst (P (instrs.New to (operands.Number fields)) Fields) same (of_fields none (omega (arith, few, same)))
  by_tests false true none_is fields_is short =
      let none : fields ≡ 0 = eqb-true fields 0 fields_is in
      let few = ltb-false LONGEST_RECORD (fields + numbers) short in
      let same : numbers ≡ fields + numbers = omega (arith, none) in
      subst (P (instrs.Raw to (operands.Number numbers)) Raw) same (of_numbers none (omega (arith, few, same)))
  by_tests false false none_is fields_is short = let few = ltb-false (LONGEST_RECORD - 1) (fields + numbers) short in of_both (omega (arith, few))

  pub making_is : is_too_long fields numbers ≡ false → P (making to fields numbers) (kind_for fields numbers) (fields + numbers)
  making_is short = by_tests (numbers == 0) (fields == 0) refl refl short

pub call_making : (m : ℕ) (heap : Heap) (k : Mutator) (to fields numbers : ℕ) → is_too_long fields numbers ≡ false
    → call m heap k (making to fields numbers) ≡ Ok (allocated m heap k (kind_for fields numbers) to (fields + numbers) (Number 0))
call_making m heap k to fields numbers short =
    making_is to fields numbers (λ i kind len. call m heap k i ≡ Ok (allocated m heap k kind to len (Number 0)))
    (λ none few. call-new m heap k to fields few) (λ none few. call-raw m heap k to numbers few) (λ few. call-mix m heap k to fields numbers few) short

-- ---- what such a call asks for, and its end

pub makes_begin : (account : Account) (registers : List ℕ) (i : Instr) → IsTrue (is_valid i) → account.serial < MOST_RECORDS → FitsCall account registers i
makes_begin account registers i valid few = record { valid = valid; serial = λ m makes. omega (arith, few) }

-- the heap was full, if it would have been executed
pub full : (a b : Seated) (i : Instr) (end : End) (t : WasTrapped a i end b) (kind : Kind) (d len : ℕ)
    → call (number a) t.heap (seen_mutator a) i ≡ Ok (allocated (number a) t.heap (seen_mutator a) kind d len (Number 0)) → is_heap_full end ≡ true
full a b i end t kind d len is = ends_full (number a) t.heap (seen_mutator a) i end (is_done _ _ is) t.may

-- ---- of a root

module _ (a b : Seated) (to : Root) (d fields numbers : ℕ) (d_is : d ≡ root_register to) (i : Instr) (i_is : i ≡ making d fields numbers)
    (long : Bool) (long_is : long ≡ is_too_long fields numbers) (short : long ≡ false) where
  abbrev makes : Instr
  makes = making (root_register to) fields numbers

  same : i ≡ makes
  same = i_is ∙ ap (λ (r : ℕ). making r fields numbers) d_is

  few : is_too_long fields numbers ≡ false
  few = sym long_is ∙ short

  pub made_root : HadEffect a i b → HasMade a (kind_for fields numbers) (fields + numbers) (root_register to) b × HadEffects a (done makes ∷ []) (root_register to) b
  made_root was =
      let e : HadEffect a makes b = subst (λ (z : Instr). HadEffect a z b) same was in
      let into = root_within to (root_register to) refl in
      let is = call_making (number a) e.heap (seen_mutator a) (root_register to) fields numbers few in (
        made a b makes e (kind_for fields numbers) (root_register to) (fields + numbers) into is,
        leaves_one a b makes e (root_register to) _ _ (made_sets a b makes e (kind_for fields numbers) (root_register to) (fields + numbers) into is),
      )

  pub full_root : (end : End) → WasTrapped a i end b → IsFull a makes end b
  full_root end may =
      let t : WasTrapped a makes end b = subst (λ (z : Instr). WasTrapped a z end b) same may in (
        record {
          called = (b, (t.called, refl));
          had_no_end = t.had_no_end;
          ended = t.called.ends;
          heap = t.heap_is ∙ sym t.before;
          others = λ j scratch. t.registers j;
        },
        full a b makes end t (kind_for fields numbers) (root_register to) (fields + numbers) (call_making (number a) t.heap (seen_mutator a) (root_register to) fields numbers few),
      )
