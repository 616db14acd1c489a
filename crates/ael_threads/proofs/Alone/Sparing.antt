-- An instruction of another mutator than m, where no other is led to a record of mutator m: it leaves those records as they were, and
-- leads no other to one.
use Rattle.std.proofs.Common.{◌≡◌, ◌≢◌, ℕ, ◌+◌, ◌-◌, ◌<◌, ◌≤◌, ◌⊎◌, inl, inr, List, [], ◌∷◌, ◌++◌, length, Option, Some, None, Result, Ok, Err, slice_set, get_or, refl, sym, subst, arith, length-set}
use Rattle.std.specs.Bool.{⊤}
use Rattle.std.specs.List.{All}
use Rattle.std.specs.Option.{option_map_or}
use Rattle.std.specs.Result.{IfOk}
use Rattle.std.proofs.lemmas.Bool.{cases_eq, cases_lt}
use Rattle.std.proofs.lemmas.List.{get_or_past, get_or-set_same, get_or-set_other}
use Rattle.std.proofs.lemmas.List.Elements.{All-nil, All-set, All-push, All-replicate}
use Rattle.plain_state.specs.declared.end.End.{End}
use Rattle.plain_state.specs.declared.kind.Kind.{Kind}
use Rattle.plain_state.specs.declared.kind.Kind.TheVariants.{Weak}
use Rattle.plain_state.specs.declared.value.Identity.{Identity}
use Rattle.plain_state.specs.declared.value.Value.{Value}
use Rattle.plain_state.specs.declared.value.Value.TheVariants.{Number, Reference}
use Rattle.plain_state.specs.Operation.{applied}
use Rattle.plain_state.specs.State.{Record, Heap, Mutator, made_by, record_of, serial_of}
use Rattle.plain_state.specs.Writing.{with_board, with_records, with_value, stored}
use Rattle.mutator_asm.specs.declared.instr.Instr.{Instr}
use Rattle.mutator_asm.specs.declared.instr.Instr.TheVariants as instrs
use Rattle.plain_heap.specs.declared.action.Action.{Action}
use Rattle.plain_heap.specs.declared.action.Action.TheVariants.{Sets, Jumps, Links, Prints, Makes, Measures, Loads, Stores, Compares, Gets, Puts, Swaps, Snaps}
use Rattle.plain_heap.specs.Action.{◌>>=◌, action, in_record, next_of, register}
use Rattle.plain_heap.specs.Call.{After, board_word, call, jumped, may_hold, performed, set_register, store_in, value_in, values_of, went_on, filled}
use Rattle.plain_heap.proofs.Calls.Named.{FillsKind, Names, Spells, named}
use Rattle.plain_heap.proofs.Calls.CallOutcomes.{if_ok-bind, if_ok-then, performed_exchange, computed}
use Rattle.plain_heap.proofs.Alone.Owned.{found_serial, read_all}
use Rattle.plain_heap.proofs.Calls.RecordsAfterCalls.{held_same}

-- a number, or a reference to a record of another than mutator m
abbrev pub IsElse : ℕ → Value → Type 0
IsElse m (Number n) = ⊤
IsElse m (Reference i) = i.mutator ≢ m

abbrev pub AllElse : ℕ → Record → Type 0
AllElse m r = All (IsElse m) r.values

-- neither the board nor the records of others lead to a record of mutator m
pub record IsSpared (m : ℕ) (heap : Heap) : Type 0 where
  pub board : All (IsElse m) heap.board
  pub records : (j : ℕ) → j ≢ m → All (AllElse m) (made_by heap j)

-- what an instruction of another mutator leaves
pub record Spares (m : ℕ) (heap : Heap) (after : After) : Type 0 where
  pub same : made_by after.heap m ≡ made_by heap m
  pub as_many : length after.heap.records ≡ length heap.records
  pub spared : IsSpared m after.heap
  pub registers : All (IsElse m) after.mutator.registers

-- what is read where an element was written
set_read : {A : Type 0} (P : A → Type 0) (xs : List A) (i : ℕ) (x d : A) → P x → P d → (i < length xs) ⊎ (length xs ≤ i) → P (get_or (slice_set xs i x) i d)
set_read P xs i x d is none (inl within) = subst P (sym (get_or-set_same xs i x d within)) is
set_read P xs i x d is none (inr past) = subst P (sym (get_or_past (slice_set xs i x) i d (omega (arith, length-set xs i x, past)))) none

held_else : (m : ℕ) (kind : Kind) (x : ℕ) (v : Value) → IsElse m v → IfOk (may_hold kind x v) (IsElse m)
held_else m kind x v is = by_outcome (may_hold kind x v) refl
  where
    by_outcome : (o : Result Value End) → may_hold kind x v ≡ o → IfOk o (IsElse m)
    by_outcome (Ok w) e = subst (IsElse m) (held_same kind x v w e) is
    by_outcome (Err why) e = tt

-- what fills a new record leads to a record of another, if it leads to one
fills_else : (m : ℕ) (kind : Kind) (v : Value) → FillsKind (IsElse m) kind v → IsElse m v
fills_else m Weak v fills = fills
fills_else m _ v fills = subst (IsElse m) (sym fills) tt

spells : (m : ℕ) (i : Instr) → Spells (IsElse m) ⊤ i
spells m (instrs.Li d n) = tt
spells m _ = tt

module _ (m j : ℕ) (other : j ≢ m) (heap : Heap) (k : Mutator) (spared : IsSpared m heap) (registers : All (IsElse m) k.registers) where
  -- ---- what is read

  register_else : (r : ℕ) → IsElse m (register k r)
  register_else r = read_all (IsElse m) k.registers r (Number 0) registers tt

  found_else : (i : Identity) (r : Record) → i.mutator ≢ m → record_of heap i ≡ Some r → AllElse m r
  found_else i r else is = found_serial (AllElse m) (made_by heap i.mutator) i.serial r (spared.records i.mutator else) is

  values_as : (i : Identity) (o : Option Record) → i.mutator ≢ m → record_of heap i ≡ o → All (IsElse m) (option_map_or (λ r. r.values) o [])
  values_as i None else is = All-nil (IsElse m)
  values_as i (Some r) else is = found_else i r else is

  word_else : (i : Identity) (x : ℕ) → i.mutator ≢ m → IfOk (value_in heap i x) (IsElse m)
  word_else i x else =
      if_ok-bind (IsElse m) (in_record (length (values_of heap i)) x) _ (λ y. read_all (IsElse m) (values_of heap i) y (Number 0) (values_as i (record_of heap i) else refl) tt)

  -- ---- what is written

  -- the heap stays
  stays : (next : Mutator) → All (IsElse m) next.registers → Spares m heap (record { heap = heap; mutator = next })
  stays next all = record { same = refl; as_many = refl; spared = spared; registers = all }

  loads_so : (d target : ℕ) (v : Value) → IsElse m v → Spares m heap (record { heap = heap; mutator = jumped (set_register k d v) target })
  loads_so d target v is = stays (jumped (set_register k d v) target) (All-set (IsElse m) k.registers d v is registers)

  -- the board has another word
  posts : (x : ℕ) (v : Value) (next : Mutator) → IsElse m v → All (IsElse m) next.registers → Spares m heap (record { heap = with_board heap x v; mutator = next })
  posts x v next is all = record { same = refl; as_many = refl; spared = record { board = All-set (IsElse m) heap.board x v is spared.board; records = spared.records }; registers = all }

  -- mutator n has other records
  writes : (n : ℕ) (records : List Record) (next : Mutator) → n ≢ m → All (AllElse m) records → All (IsElse m) next.registers
      → Spares m heap (record { heap = with_records heap n records; mutator = next })
  writes n records next else all all_registers = record {
    same = get_or-set_other heap.records n m records [] (λ e. else (sym e));
    as_many = length-set heap.records n records;
    spared = record { board = spared.board; records = λ i apart. reads i apart (cases_eq i n) };
    registers = all_registers;
  }
    where
      reads : (i : ℕ) → i ≢ m → (i ≡ n) ⊎ (i ≡ n → ⊥) → All (AllElse m) (made_by (with_records heap n records) i)
      reads i apart (inl e) = subst (λ i. All (AllElse m) (made_by (with_records heap n records) i)) (sym e)
          (set_read (All (AllElse m)) heap.records n records [] all (All-nil (AllElse m)) (cases_lt n (length heap.records)))
      reads i apart (inr elsewhere) = subst (All (AllElse m)) (sym (get_or-set_other heap.records n i records [] elsewhere)) (spared.records i apart)

  makes_so : (kind : Kind) (d n : ℕ) (v : Value) → IsElse m v → IfOk (performed j heap k (Makes kind d n v)) (Spares m heap)
  makes_so kind d n v is = writes j (made_by heap j ++ filled kind n v ∷ []) _ other
      (All-push (AllElse m) (made_by heap j) (filled kind n v) (spared.records j other) (All-replicate (IsElse m) n v is))
      (All-set (IsElse m) k.registers d (Reference (record { mutator = j; serial = serial_of heap j + 1 })) other registers)

  -- a store, after which the mutator is this
  module _ (next : Mutator) (next_registers : All (IsElse m) next.registers) where
    stored_so : (i : Identity) (r : Record) (x : ℕ) (o : Result Value End) → i.mutator ≢ m → record_of heap i ≡ Some r → IfOk o (IsElse m)
        → IfOk ((o >>= (λ v. Ok (stored heap i r x v))) >>= (λ h. Ok (record { heap = h; mutator = next }))) (Spares m heap)
    stored_so i r x (Ok v) else found is = writes i.mutator (slice_set (made_by heap i.mutator) (i.serial - 1) (with_value r x v)) next else
        (All-set (AllElse m) (made_by heap i.mutator) (i.serial - 1) (with_value r x v) (All-set (IsElse m) r.values x v is (found_else i r else found)) (spared.records i.mutator else))
        next_registers
    stored_so i r x (Err why) else found is = tt

    stores_so : (i : Identity) (o : Option Record) (x : ℕ) (v : Value) → i.mutator ≢ m → record_of heap i ≡ o → IsElse m v
        → IfOk (store_in heap i o x v >>= (λ h. Ok (record { heap = h; mutator = next }))) (Spares m heap)
    stores_so i None x v else found is = tt
    stores_so i (Some r) x v else found is = stored_so i r x (may_hold r.kind x v) else found (held_else m r.kind x v is)

  -- ---- the instructions

  board_else : (x : ℕ) → IsElse m (board_word heap x)
  board_else x = read_all (IsElse m) heap.board x (Number 0) spared.board tt

  performed_spares : (act : Action) → Names (IsElse m) ⊤ k act → IfOk (performed j heap k act) (Spares m heap)
  performed_spares (Sets d v) is = loads_so d (next_of k) v is
  performed_spares (Jumps target) is = stays (jumped k target) registers
  performed_spares (Links d target) is = loads_so d target (Number (next_of k)) tt
  performed_spares Snaps is = record { same = refl; as_many = refl; spared = record { board = spared.board; records = spared.records }; registers = registers }
  performed_spares (Prints n) is = stays (went_on (record k { printed = k.printed ++ n ∷ [] })) registers
  performed_spares (Makes kind d n v) is = makes_so kind d n v (fills_else m kind v is.1)
  performed_spares (Measures d i) is = loads_so d (next_of k) (Number (length (values_of heap i))) tt
  performed_spares (Loads d i x) is = if_ok-then (IsElse m) (Spares m heap) (value_in heap i x) _ (word_else i x is) (λ v is_v. loads_so d (next_of k) v is_v)
  performed_spares (Stores i x v) is = if_ok-bind (Spares m heap) (value_in heap i x) _ (λ old. stores_so (went_on k) registers i (record_of heap i) x v is.0 refl is.1)
  performed_spares (Compares d i x expected v) is =
      performed_exchange j heap k d i x expected v (Spares m heap) (loads_so d (next_of k) (Number 0) tt)
      (stores_so (went_on (set_register k d (Number 1))) (All-set (IsElse m) k.registers d (Number 1) tt registers) i (record_of heap i) x v is.0 refl is.2)
  performed_spares (Gets d x) is = loads_so d (next_of k) (board_word heap x) (board_else x)
  performed_spares (Puts x v) is = posts x v (went_on k) is.2 registers
  performed_spares (Swaps d x v) is =
      posts x v (went_on (set_register k d (board_word heap x))) is.2 (All-set (IsElse m) k.registers d (board_word heap x) (board_else x) registers)

  pub call-spares : (i : Instr) → IfOk (call j heap k i) (Spares m heap)
  unfolding call
  call-spares i = if_ok-then (Names (IsElse m) ⊤ k) (Spares m heap) (action k i) (performed j heap k)
      (named (IsElse m) ⊤ k register_else tt (λ b. tt) (λ operation a b is_a is_b. computed (applied operation a b)) i (spells m i)) performed_spares

-- ---- a cell of another

-- whoever reads nothing
abbrev nobody : Mutator
nobody = record { counter = 0; registers = []; printed = []; executed = 0; end = None }

-- it is emptied
pub emptied-spares : (m : ℕ) (heap : Heap) (i : Identity) (r : Record) → i.mutator ≢ m → record_of heap i ≡ Some r → IsSpared m heap → Spares m heap (record { heap = stored heap i r 0 (Number 0); mutator = nobody })
emptied-spares m heap i r other found spared =
    let none = All-nil (IsElse m) in
    let values = All-set (IsElse m) r.values 0 (Number 0) tt (found_else m i.mutator other heap nobody spared none i r other found) in
    writes m i.mutator other heap nobody spared none i.mutator (slice_set (made_by heap i.mutator) (i.serial - 1) (with_value r 0 (Number 0))) nobody other
    (All-set (AllElse m) (made_by heap i.mutator) (i.serial - 1) (with_value r 0 (Number 0)) values (spared.records i.mutator other)) none
