-- What the instructions of a clerk do to its records and registers, if their operands are what they ask for.
use Rattle.std.proofs.Common.{◌≡◌, ℕ, ◌+◌, ◌-◌, ◌^◌, ◌<◌, false, List, [], ◌∷◌, ◌++◌, length, Some, None, Result, Ok, Err, slice_index_or, slice_set, refl, ap, sym, ◌∙◌}
use Rattle.std.specs.Prelude.{IsOk, IsTrue}
use Rattle.std.specs.Option.{option_map}
use Rattle.std.proofs.lemmas.Bool.{le-leb, lt-ltb}
use Rattle.std.proofs.lemmas.List.{get_or-set_same, length-replicate}
use Rattle.plain_state.specs.declared.end.End.{End}
use Rattle.plain_state.specs.declared.kind.Kind.{Kind}
use Rattle.plain_state.specs.declared.kind.Kind.TheVariants.{Fields, Raw, Weak}
use Rattle.plain_state.specs.declared.sizes.TheConstants.{LONGEST_RECORD}
use Rattle.plain_state.specs.declared.value.Value.{Value}
use Rattle.plain_state.specs.declared.value.Value.TheVariants.{Number}
use Rattle.plain_state.specs.Layout.{values_at, words_behind}
use Rattle.plain_state.specs.State.{Heap, Mutator, Record, made_by}
use Rattle.plain_state.specs.Writing.{stored, with_value, zeros}
use Rattle.mutator_asm.specs.declared.instr.Instr.{Instr}
use Rattle.mutator_asm.specs.declared.instr.Instr.TheVariants as instrs
use Rattle.mutator_asm.specs.declared.operand.Operand.TheVariants as operands
use Rattle.mutator_asm.specs.Program.{is_valid}
use Rattle.plain_heap.specs.Action.{action, register}
use Rattle.plain_heap.specs.Alone.{leaves_board}
use Rattle.plain_heap.specs.Call.{After, allocated, call, is_cell, loads, may_hold, set_register, went_on}
use Rattle.plain_heap.specs.Step.{new_record, pages_for, pages_of}
use Rattle.heap_state.specs.Known.{Account}
use Rattle.gc_worker.specs.Plain.Seen.{making_in, seen}
use Rattle.gc_worker.specs.Workers.Fits.{FitsCall}
use Rattle.gc_worker.proofs.Plain.RecordsMade.{made_of}
use Rattle.plain_heap.proofs.Calls.RecordsAfterCalls.{held_same}
use Rattle.plain_heap.proofs.Calls.Single.{call-li, call-mov, call-new, call-raw}
use Rattle.concordance.specs.Desk.{CanDo, CanMake, Desk, HasWord, LeadsTo, MayTake, desk_after, desk_at, desk_size_made, desk_values, desk_with_record, desk_with_word, desk_word, own}
use Rattle.concordance.proofs.Gathered.Reads.{record_none}

-- ---- the record to which a value leads

module _ (desk : Desk) (v : Value) (r : Record) (leads : LeadsTo desk v r) where
  pub values_there : desk_values desk v ≡ r.values
  values_there = rw (leads.is, leads.found) refl

  pub word_there : (x : ℕ) → desk_word desk v x ≡ slice_index_or r.values x (Number 0)
  word_there x = rw (leads.is, leads.found) refl

  pub with_word_there : (x : ℕ) (w : Value) → desk_with_word desk v x w ≡ record desk { records = slice_set desk.records (leads.serial - 1) (with_value r x w) }
  with_word_there x w = rw (leads.is, leads.found) refl

held_is : (kind : Kind) (x : ℕ) (w : Value) → IsOk (may_hold kind x w) → may_hold kind x w ≡ Ok w
held_is kind x w is = by_outcome (may_hold kind x w) refl is
  where
    by_outcome : (o : Result Value End) → may_hold kind x w ≡ o → IsOk o → may_hold kind x w ≡ Ok w
    by_outcome (Ok v) e is = e ∙ ap Ok (sym (held_same kind x w v e))
    by_outcome (Err why) e is = cc

-- ---- the plain machine's call

module _ (m : ℕ) (heap : Heap) (k : Mutator) where
  abbrev here : Desk
  here = desk_at m heap k

  pub call-ld : (d a x : ℕ) (r : Record) → LeadsTo here (register k a) r → x < length r.values → is_cell r.kind ≡ false
      → call m heap k (instrs.Ld d a (operands.Number x)) ≡ Ok (loads heap k d (slice_index_or r.values x (Number 0)))
  unfolding call action
  call-ld d a x r leads within no_cell = rw (leads.is, leads.found, lt-ltb x (length r.values) within) refl

  pub call-len : (d a : ℕ) (r : Record) → LeadsTo here (register k a) r → call m heap k (instrs.Len d a) ≡ Ok (loads heap k d (Number (length r.values)))
  unfolding call action
  call-len d a r leads = rw (leads.is, leads.found) refl

  pub call-st : (a x b : ℕ) (r : Record) (leads : LeadsTo here (register k a) r) → x < length r.values → IsOk (may_hold r.kind x (register k b))
      → call m heap k (instrs.St a (operands.Number x) b) ≡ Ok (record { heap = stored heap (record { mutator = m; serial = leads.serial }) r x (register k b); mutator = went_on k })
  unfolding call action
  call-st a x b r leads within holds = rw (leads.is, leads.found, lt-ltb x (length r.values) within, held_is r.kind x (register k b) holds) refl

  -- ---- on the desk

  -- the instruction is executed, and leaves the desk as is said
  pub record IsDone (i : Instr) : Type 0 where
    pub after : After
    pub ok : call m heap k i ≡ Ok after
    pub desk_is : desk_at m after.heap after.mutator ≡ desk_after here i

  done-ld : (d a x : ℕ) → HasWord here (register k a) x → IsDone (instrs.Ld d a (operands.Number x))
  done-ld d a x has = record {
    after = loads heap k d (slice_index_or has.found.values x (Number 0));
    ok = call-ld d a x has.found has.leads has.within has.no_cell;
    desk_is = ap (λ (v : Value). desk_at m heap (went_on (set_register k d v))) (sym (word_there here (register k a) has.found has.leads x));
  }

  done-len : (d a : ℕ) (r : Record) → LeadsTo here (register k a) r → IsDone (instrs.Len d a)
  done-len d a r leads = record {
    after = loads heap k d (Number (length r.values));
    ok = call-len d a r leads;
    desk_is = ap (λ (vs : List Value). desk_at m heap (went_on (set_register k d (Number (length vs))))) (sym (values_there here (register k a) r leads));
  }

  module _ (kept : m < length heap.records) where
    abbrev with_list : List Record → Desk
    with_list records = record { number = m; records = records; registers = k.registers }

    made_there : (records : List Record) → slice_index_or (slice_set heap.records m records) m [] ≡ records
    made_there records = get_or-set_same heap.records m records [] kept

    done-st : (a x b : ℕ) → MayTake here (register k a) x (register k b) → IsDone (instrs.St a (operands.Number x) b)
    done-st a x b may =
        let s = may.leads.serial in
        let w = register k b in record {
          after = record { heap = stored heap (record { mutator = m; serial = s }) may.found x w; mutator = went_on k };
          ok = call-st a x b may.found may.leads may.within may.holds;
          desk_is = ap with_list (made_there (slice_set (made_by heap m) (s - 1) (with_value may.found x w))) ∙ sym (with_word_there here (register k a) may.found may.leads x w);
        }

    done-made : (kind : Kind) (d n : ℕ) → desk_at m (allocated m heap k kind d n (Number 0)).heap (allocated m heap k kind d n (Number 0)).mutator ≡ desk_with_record here kind d n
    done-made kind d n =
        ap (λ (records : List Record). let made : Desk = record { number = m; records = records; registers = slice_set k.registers d (own m (length (made_by heap m) + 1)) } in made)
        (made_there (made_by heap m ++ zeros kind n ∷ []))

    pub does : (i : Instr) → CanDo here i → IsDone i
    does (instrs.Li d n) can = record { after = loads heap k d (Number n); ok = call-li m heap k d n; desk_is = refl }
    does (instrs.Mov d a) can = record { after = loads heap k d (register k a); ok = call-mov m heap k d a; desk_is = refl }
    does (instrs.Ld d a (operands.Number x)) can = done-ld d a x can
    does (instrs.St a (operands.Number x) b) can = done-st a x b can
    does (instrs.Len d a) can = done-len d a can.0 can.1
    does _ can = absurd can

    pub makes : (i : Instr) → CanMake here i → IsDone i
    makes (instrs.New d (operands.Number n)) can = record { after = allocated m heap k Fields d n (Number 0); ok = call-new m heap k d n can.0; desk_is = done-made Fields d n }
    makes (instrs.Raw d (operands.Number n)) can = record { after = allocated m heap k Raw d n (Number 0); ok = call-raw m heap k d n can.0; desk_is = done-made Raw d n }
    makes _ can = absurd can

-- ---- the board and new records

pub does_leave_board : (desk : Desk) (i : Instr) → CanDo desk i → IsTrue (leaves_board i)
does_leave_board desk (instrs.Li d n) can = refl
does_leave_board desk (instrs.Mov d a) can = refl
does_leave_board desk (instrs.Ld d a x) can = refl
does_leave_board desk (instrs.St a x b) can = refl
does_leave_board desk (instrs.Len d a) can = refl
does_leave_board desk _ can = absurd can

pub makes_leave_board : (desk : Desk) (i : Instr) → CanMake desk i → IsTrue (leaves_board i)
makes_leave_board desk (instrs.New d x) can = refl
makes_leave_board desk (instrs.Raw d x) can = refl
makes_leave_board desk _ can = absurd can

pub does_none : (k : Mutator) (desk : Desk) (i : Instr) → CanDo desk i → making_in (action k i) ≡ None
does_none k desk (instrs.New d x) can = absurd can
does_none k desk (instrs.Raw d x) can = absurd can
does_none k desk (instrs.Mix d fields raw) can = absurd can
does_none k desk (instrs.Weak d a) can = absurd can
does_none k desk i can = made_of k i

pub does_no_record : (k : Mutator) (desk : Desk) (i : Instr) → CanDo desk i → new_record k i ≡ None
does_no_record k desk i can = record_none (action k i) (does_none k desk i can)

zeros_pages : (kind : Kind) (n : ℕ) → pages_of (zeros kind n) ≡ pages_for (n + (values_at kind + words_behind kind))
zeros_pages kind n = ap (λ (len : ℕ). pages_for (len + (values_at kind + words_behind kind))) (length-replicate n (Number 0))

-- the pages that are asked for
pub makes_pages : (k : Mutator) (desk : Desk) (i : Instr) → CanMake desk i → option_map pages_of (new_record k i) ≡ Some (pages_for (desk_size_made i))
unfolding action
makes_pages k desk (instrs.New d (operands.Number n)) can = rw (le-leb n LONGEST_RECORD can.0) (ap Some (zeros_pages Fields n))
makes_pages k desk (instrs.Raw d (operands.Number n)) can = rw (le-leb n LONGEST_RECORD can.0) (ap Some (zeros_pages Raw n))
makes_pages k desk _ can = absurd can

-- its serial fits a header
pub makes_serial : (desk : Desk) (i : Instr) → CanMake desk i → length desk.records + 1 < 2 ^ 40
makes_serial desk (instrs.New d (operands.Number n)) can = can.1
makes_serial desk (instrs.Raw d (operands.Number n)) can = can.1
makes_serial desk _ can = absurd can

-- ---- what a call asks of its mutator

pub does_begins : (account : Account) (registers : List ℕ) (desk : Desk) (i : Instr) → IsTrue (is_valid i) → CanDo desk i → FitsCall account registers i
does_begins account registers desk i valid can = record { valid = valid; serial = λ m makes. let no : None ≡ Some m = sym (does_none (seen account registers) desk i can) ∙ makes in absurd cc }
