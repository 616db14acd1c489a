-- What an instruction does to cells: it changes none, and makes none, unless it is `weak`.
use Rattle.std.proofs.Common.{◌≡◌, ◌≢◌, ◌⊎◌, inl, inr, ℕ, zero, suc, ◌<◌, ◌≤◌, Bool, true, false, cond, List, [], ◌∷◌, ◌++◌, length, Option, Some, None, Result, Ok, Err, refl, ap, sym, ◌∙◌, ⊎_elim, get_or-set_same, get_or-set_other}
use Rattle.std.specs.Bool.{⊤}
use Rattle.std.specs.Option.{option_map}
use Rattle.std.specs.Result.{IfOk}
use Rattle.std.proofs.lemmas.Bool.{cases_eq, cases_lt}
use Rattle.std.proofs.lemmas.List.{set_past}
use Rattle.std.proofs.lemmas.Option.{same_Some}
use Rattle.std.proofs.lemmas.Result.{IfOk-weaker}
use Rattle.plain_state.specs.declared.end.End.{End}
use Rattle.plain_state.specs.declared.value.Identity.{Identity}
use Rattle.plain_state.specs.declared.value.Value.{Value}
use Rattle.plain_state.specs.declared.value.Value.TheVariants.{Number}
use Rattle.plain_state.specs.State.{Record, Heap, Mutator, at_serial, made_by, record_of}
use Rattle.plain_state.specs.Writing.{filled, gained, stored}
use Rattle.plain_state.proofs.Gained.{gained_elsewhere}
use Rattle.plain_state.proofs.Stored.{stored_elsewhere}
use Rattle.mutator_asm.specs.declared.instr.Instr.{Instr}
use Rattle.plain_heap.specs.declared.action.Action.{Action}
use Rattle.plain_heap.specs.declared.action.Action.TheVariants.{Makes, Loads, Stores, Compares}
use Rattle.plain_heap.specs.Action.{◌>>=◌, action, are_same}
use Rattle.plain_heap.specs.Call.{After, call, is_cell, loads, performed, value_in}
use Rattle.plain_heap.specs.Records.{CellsStay, RecordShape, record_word, shape}
use Rattle.plain_heap.specs.Tracing.{is_weak}
use Rattle.plain_heap.proofs.Calls.ActionsOf.{IsActionOf, is_action_of}
use Rattle.plain_heap.proofs.Calls.CallOutcomes.{if_ok-bind, if_ok-is}
use Rattle.plain_heap.proofs.Calls.RecordsAfterCalls.{exchanged, goes_on, performed_as, stored_shape}
use Rattle.plain_heap.proofs.Reaching.Emptying.{NoCells}

-- ---- actions

-- the action makes no cell
abbrev MakesNoCell : Action → Type 0
MakesNoCell (Makes kind d n v) = is_cell kind ≡ false
MakesNoCell _ = ⊤

no_cell_by : (i : Instr) (act : Action) → is_weak i ≡ false → IsActionOf i act → MakesNoCell act
no_cell_by i (Makes kind d n v) other is = is.1 ∙ other
no_cell_by i _ other is = tt

makes_no_cell : (k : Mutator) (i : Instr) → is_weak i ≡ false → IfOk (action k i) MakesNoCell
makes_no_cell k i other = IfOk-weaker (action k i) (IsActionOf i) MakesNoCell (λ act is. no_cell_by i act other is) (is_action_of k i)

module _ (m : ℕ) (heap : Heap) (k : Mutator) (i : Identity) where
  -- ---- a cell stays

  module _ (r : Record) (found : record_of heap i ≡ Some r) (cell : is_cell r.kind ≡ true) where
    abbrev HasCell : After → Type 0
    HasCell after = record_of after.heap i ≡ Some r

    -- a record that is none is another one
    stored_apart : (j : Identity) (own : Record) (y : ℕ) (v : Value) → record_of heap j ≡ Some own → is_cell own.kind ≡ false → record_of (stored heap j own y v) i ≡ Some r
    stored_apart j own y v its no_cell =
        stored_elsewhere heap j own y v its i (λ e f. absurd (
        let same : Some r ≡ Some own = sym found ∙ ((λ t. at_serial (made_by heap (e t)) (f t)) ∙ its) in
        let both : true ≡ false = sym cell ∙ (ap (λ (q : Record). is_cell q.kind) (same_Some r own same) ∙ no_cell) in
        cc)) ∙ found

    gained_cell : (new : Record) → record_of (gained heap m new) i ≡ Some r
    gained_cell new = ⊎_elim
        (λ (within : m < length heap.records). gained_elsewhere heap m new within i r found)
        (λ (past : length heap.records ≤ m). rw (set_past heap.records m (made_by heap m ++ new ∷ []) past) found)
        (cases_lt m (length heap.records))

    exchanged_cell : (j : Identity) (own : Record) (y d : ℕ) (v : Value) → record_of heap j ≡ Some own → is_cell own.kind ≡ false → (same : Bool)
        → HasCell (cond same (loads (stored heap j own y v) k d (Number 1)) (loads heap k d (Number 0)))
    exchanged_cell j own y d v its no_cell true = stored_apart j own y v its no_cell
    exchanged_cell j own y d v its no_cell false = found

    performed_cell : (act : Action) → IfOk (performed m heap k act) HasCell
    performed_cell (Makes kind d n v) = gained_cell (filled kind n v)
    performed_cell (Loads d j y) = if_ok-bind HasCell (value_in heap j y) _ (λ v. found)
    performed_cell (Stores j y v) = performed_as m heap k i HasCell j y v (goes_on m heap k i) (λ own its no_cell inside. stored_apart j own y v its no_cell)
    performed_cell (Compares d j y expected v) =
        performed_as m heap k i HasCell j y v (exchanged m heap k i d expected) (λ own its no_cell inside. exchanged_cell j own y d v its no_cell (are_same (record_word heap j y) expected))
    performed_cell _ = found

    cell_by : (o : Result Action End) → IfOk (o >>= performed m heap k) HasCell
    cell_by (Ok act) = performed_cell act
    cell_by (Err why) = tt

  -- ---- a record that is gained

  added : (records : List Record) (serial : ℕ) (new r : Record) → at_serial (records ++ new ∷ []) serial ≡ Some r → (at_serial records serial ≡ Some r) ⊎ (new ≡ r)
  added records zero new r is = absurd (cc)
  added [] (suc zero) new r is = inr (same_Some new r is)
  added [] (suc (suc n)) new r is = absurd (cc)
  added (q ∷ records) (suc zero) new r is = inl is
  added (q ∷ records) (suc (suc n)) new r is = added records (suc n) new r is

  -- a record that is there then was there, or is the new one
  pub gained_is : (new r : Record) → record_of (gained heap m new) i ≡ Some r → (record_of heap i ≡ Some r) ⊎ (new ≡ r)
  gained_is new r found = ⊎_elim
      (λ (within : m < length heap.records). ⊎_elim
      (λ (e : i.mutator ≡ m). by_place e (added (made_by heap m) i.serial new r
      (sym (ap (λ (records : List Record). at_serial records i.serial) (ap (λ (j : ℕ). made_by (gained heap m new) j) e ∙ get_or-set_same heap.records m (made_by heap m ++ new ∷ []) [] within)) ∙ found)))
      (λ (other : i.mutator ≢ m). inl (sym (ap (λ (records : List Record). at_serial records i.serial) (get_or-set_other heap.records m i.mutator (made_by heap m ++ new ∷ []) [] other)) ∙ found))
      (cases_eq i.mutator m))
      (λ (past : length heap.records ≤ m). inl (rw (set_past heap.records m (made_by heap m ++ new ∷ []) past) at found))
      (cases_lt m (length heap.records))
    where
      by_place : i.mutator ≡ m → (at_serial (made_by heap m) i.serial ≡ Some r) ⊎ (new ≡ r) → (record_of heap i ≡ Some r) ⊎ (new ≡ r)
      by_place e (inl before) = inl (ap (λ (j : ℕ). at_serial (made_by heap j) i.serial) e ∙ before)
      by_place e (inr newest) = inr newest

  -- ---- no cell comes

  module _ (none : (r : Record) → record_of heap i ≡ Some r → is_cell r.kind ≡ false) where
    abbrev HasNone : After → Type 0
    HasNone after = (r : Record) → record_of after.heap i ≡ Some r → is_cell r.kind ≡ false

    -- by the shape that it had
    none_of : (o : Option Record) → record_of heap i ≡ o → (r : Record) → Some (shape r) ≡ option_map shape o → is_cell r.kind ≡ false
    none_of None found r same = absurd (cc)
    none_of (Some q) found r same = ap (λ (s : RecordShape). is_cell s.kind) (same_Some (shape r) (shape q) same) ∙ none q found

    stored_none : (j : Identity) (own : Record) (y : ℕ) (v : Value) → record_of heap j ≡ Some own → (r : Record) → record_of (stored heap j own y v) i ≡ Some r → is_cell r.kind ≡ false
    stored_none j own y v its r found = none_of (record_of heap i) refl r (sym (ap (option_map shape) found) ∙ stored_shape heap j own y v its i)

    gained_none : (new : Record) → is_cell new.kind ≡ false → (r : Record) → record_of (gained heap m new) i ≡ Some r → is_cell r.kind ≡ false
    gained_none new no_cell r found = ⊎_elim
        (λ (before : record_of heap i ≡ Some r). none r before)
        (λ (newest : new ≡ r). ap (λ (q : Record). is_cell q.kind) (sym newest) ∙ no_cell)
        (gained_is new r found)

    exchanged_none : (j : Identity) (own : Record) (y d : ℕ) (v : Value) → record_of heap j ≡ Some own → (same : Bool)
        → HasNone (cond same (loads (stored heap j own y v) k d (Number 1)) (loads heap k d (Number 0)))
    exchanged_none j own y d v its true = stored_none j own y v its
    exchanged_none j own y d v its false = none

    performed_none : (act : Action) → MakesNoCell act → IfOk (performed m heap k act) HasNone
    performed_none (Makes kind d n v) no_cell = gained_none (filled kind n v) no_cell
    performed_none (Loads d j y) no_cell = if_ok-bind HasNone (value_in heap j y) _ (λ v. none)
    performed_none (Stores j y v) no_cell = performed_as m heap k i HasNone j y v (goes_on m heap k i) (λ own its other inside. stored_none j own y v its)
    performed_none (Compares d j y expected v) no_cell =
        performed_as m heap k i HasNone j y v (exchanged m heap k i d expected) (λ own its other inside. exchanged_none j own y d v its (are_same (record_word heap j y) expected))
    performed_none _ no_cell = none

    none_by : (o : Result Action End) → IfOk o MakesNoCell → IfOk (o >>= performed m heap k) HasNone
    none_by (Ok act) no_cell = performed_none act no_cell
    none_by (Err why) no_cell = tt

pub cells_stay : CellsStay
unfolding call
cells_stay m heap k instr after i r is cell found = if_ok-is (HasCell m heap k i r found cell) (call m heap k instr) after (cell_by m heap k i r found cell (action k instr)) is

-- if there is no cell of an identity, none comes
pub no_cell_comes : (m : ℕ) (heap : Heap) (k : Mutator) (instr : Instr) (after : After) (i : Identity) → is_weak instr ≡ false → ((r : Record) → record_of heap i ≡ Some r → is_cell r.kind ≡ false)
    → call m heap k instr ≡ Ok after → (r : Record) → record_of after.heap i ≡ Some r → is_cell r.kind ≡ false
unfolding call
no_cell_comes m heap k instr after i other none is = if_ok-is (HasNone m heap k i none) (call m heap k instr) after (none_by m heap k i none (action k instr) (makes_no_cell k instr other)) is

pub no_cells_come : (m : ℕ) (heap : Heap) (k : Mutator) (instr : Instr) (after : After) → is_weak instr ≡ false → NoCells heap → call m heap k instr ≡ Ok after → NoCells after.heap
no_cells_come m heap k instr after other none is i = no_cell_comes m heap k instr after i other (none i) is
