-- An instruction keeps what each state is like.
use Rattle.std.proofs.Common.{◌≡◌, ℕ, ◌+◌, ◌/◌, ◌%◌, ◌==◌, ◌<◌, ◌≤◌, ◌⊎◌, inl, inr, Bool, true, false, cond, nat_lt, nat_le, List, [], ◌∷◌, ◌++◌, length, Option, Some, None, Result, Ok, Err, slice_get, slice_set, refl, ap, sym, ◌∙◌, subst, arith, length-set, length-append}
use Rattle.std.specs.Bool.{⊤}
use Rattle.std.specs.List.{All}
use Rattle.std.specs.Option.{option_map_or}
use Rattle.std.specs.Result.{IfOk}
use Rattle.std.proofs.Math.Nat.{div-le_self, mod-le}
use Rattle.std.proofs.lemmas.Bool.{cases_eq, and_parts, ltb-true, leb-true}
use Rattle.std.proofs.lemmas.List.{length-replicate}
use Rattle.std.proofs.lemmas.List.Elements.{All-nil, All-set, All-push, All-replicate, All-weaker}
use Rattle.std.proofs.lemmas.Option.{slice_get_within}
use Rattle.plain_state.specs.declared.end.End.{End}
use Rattle.plain_state.specs.declared.kind.Kind.{Kind}
use Rattle.plain_state.specs.declared.kind.Kind.TheVariants.{Fields, Raw, Mixed, Weak}
use Rattle.plain_state.specs.declared.operation.Operation.{Operation}
use Rattle.plain_state.specs.declared.operation.Operation.TheVariants as operations
use Rattle.plain_state.specs.declared.sizes.TheConstants.{NUMBERS, MOST_PRINTED, LONGEST_RECORD}
use Rattle.plain_state.specs.declared.value.Identity.{Identity}
use Rattle.plain_state.specs.declared.value.Value.{Value}
use Rattle.plain_state.specs.declared.value.Value.TheVariants.{Number, Reference}
use Rattle.plain_state.specs.Consistent.{IsNumber, IsRecord, IsHeap, IsMutator}
use Rattle.plain_state.specs.Layout.{is_raw, word_of_value}
use Rattle.plain_state.specs.Operation.{one_if, applied, divided_by}
use Rattle.plain_state.specs.State.{Record, Heap, Mutator, made_by, record_of, serial_of, IsMade, IsValue}
use Rattle.plain_state.specs.Writing.{with_value, with_board, stored, gained, took}
use Rattle.plain_state.proofs.Gained.{gained_made, gained_newest, gained_makers}
use Rattle.plain_state.proofs.Elements.{slice_get-replicate, slice_get-set_other, set-found}
use Rattle.plain_state.proofs.Stored.{stored_made, stored_makers}
use Rattle.mutator_asm.specs.declared.instr.Instr.{Instr}
use Rattle.mutator_asm.specs.declared.instr.Instr.TheVariants as instrs
use Rattle.mutator_asm.specs.Program.{is_valid, is_register, is_number, is_target}
use Rattle.plain_heap.specs.declared.action.Action.{Action}
use Rattle.plain_heap.specs.declared.action.Action.TheVariants.{Sets, Jumps, Links, Prints, Makes, Measures, Loads, Stores, Compares, Gets, Puts, Swaps, Snaps}
use Rattle.plain_heap.specs.Action.{◌>>=◌, register, next_of, in_record, action}
use Rattle.plain_heap.specs.Call.{After, values_of, value_in, board_word, as_plain, may_hold, store_in, filled, jumped, went_on, set_register, loads, allocated, performed, call}
use Rattle.plain_heap.proofs.Calls.Named.{Spells, Names, FillsKind, named, fits-short}
use Rattle.plain_heap.proofs.Calls.CallOutcomes.{if_ok-bind, if_ok-then, performed_exchange}
use Rattle.plain_heap.proofs.Alone.Owned.{read_all, found_serial}

-- ---- a heap with more records

-- what was allocated in one heap was in the other
abbrev pub HeapGrows : Heap → Heap → Type 0
HeapGrows heap next = (i : Identity) → IsMade heap i → IsMade next i

pub value-grows : (heap next : Heap) → HeapGrows heap next → (v : Value) → IsValue heap v → IsValue next v
value-grows heap next grows (Number n) is = is
value-grows heap next grows (Reference i) is = grows i is

record-grows : (heap next : Heap) → HeapGrows heap next → (r : Record) → IsRecord heap r → IsRecord next r
record-grows heap next grows r is = record {
  short = is.short;
  values = All-weaker (IsValue heap) (IsValue next) (value-grows heap next grows) r.values is.values;
  raw = is.raw;
}

pub records-grow : (heap next : Heap) → HeapGrows heap next → (records : List (List Record)) → All (All (IsRecord heap)) records → All (All (IsRecord next)) records
records-grow heap next grows records all =
    All-weaker (All (IsRecord heap)) (All (IsRecord next)) (λ rs. All-weaker (IsRecord heap) (IsRecord next) (record-grows heap next grows) rs) records all

pub mutator-grows : (heap next : Heap) → HeapGrows heap next → (k : Mutator) → IsMutator heap k → IsMutator next k
mutator-grows heap next grows k is = record {
  counter = is.counter;
  register_count = is.register_count;
  registers = All-weaker (IsValue heap) (IsValue next) (value-grows heap next grows) k.registers is.registers;
  few_printed = is.few_printed;
  printed = is.printed;
}

grows-board : (heap : Heap) (x : ℕ) (v : Value) → HeapGrows heap (with_board heap x v)
grows-board heap x v i made = record { first = made.first; last = made.last }

grows-took : (heap : Heap) → HeapGrows heap (took heap)
grows-took heap i made = record { first = made.first; last = made.last }

-- ---- what is read

one_if-small : (b : Bool) → one_if b < NUMBERS
one_if-small true = omega arith
one_if-small false = omega arith

divided_by-small : (b n : ℕ) (none : Bool) → (b == 0) ≡ none → n < NUMBERS → IfOk (divided_by b n) (λ n. n < NUMBERS)
divided_by-small b n true is small = rw is tt
divided_by-small b n false is small = rw is small

remainder-small : (n : ℕ) → n % NUMBERS < NUMBERS
remainder-small n = omega arith

applied-small : (operation : Operation) (a b : ℕ) → a < NUMBERS → IfOk (applied operation a b) (λ n. n < NUMBERS)
applied-small operations.Div a b small = divided_by-small b (a / b) (b == 0) refl (omega (arith, div-le_self a b, small))
applied-small operations.Rem a b small = divided_by-small b (a % b) (b == 0) refl (omega (arith, mod-le a b, small))
applied-small operations.Lt a b small = one_if-small (nat_lt a b)
applied-small _ a b small = remainder-small _

-- ---- what is written

held-plain : (heap : Heap) (v : Value) (Q : Type 0) → IsValue heap v → IfOk (as_plain v) (λ w. IsValue heap w × (Q → IsNumber w))
held-plain heap (Number n) Q is = (is, λ q. is)
held-plain heap (Reference i) Q is = tt

held-value : (heap : Heap) (kind : Kind) (x : ℕ) (v : Value) → IsValue heap v → IfOk (may_hold kind x v) (λ w. IsValue heap w × (is_raw kind (word_of_value kind x) ≡ true → IsNumber w))
held-value heap Fields x v is = (is, λ raw. cc)
held-value heap Raw x v is = held-plain heap v _ is
held-value heap Weak x v is = tt
held-value heap (Mixed count) x v is = by_place (nat_lt x count) refl
  where
    by_place : (b : Bool) → nat_lt x count ≡ b → IfOk (cond b (Ok v) (as_plain v)) (λ w. IsValue heap w × (nat_le (count + 2) (x + 2) ≡ true → IsNumber w))
    by_place true field = (is, λ raw. absurd (let l = ltb-true x count field in let m = leb-true (count + 2) (x + 2) raw in omega arith))
    by_place false plain = held-plain heap v _ is

module _ (heap : Heap) (is_heap : IsHeap heap) where
  zero-value : IsValue heap (Number 0)
  zero-value = omega arith

  list-records : (m : ℕ) → All (IsRecord heap) (made_by heap m)
  list-records m = read_all (All (IsRecord heap)) heap.records m [] is_heap.records (All-nil (IsRecord heap))

  found-record : (i : Identity) (r : Record) → record_of heap i ≡ Some r → IsRecord heap r
  found-record i r is = found_serial (IsRecord heap) (made_by heap i.mutator) i.serial r (list-records i.mutator) is

  values-found : (i : Identity) (o : Option Record) → record_of heap i ≡ o → All (IsValue heap) (option_map_or (λ r. r.values) o []) × (length (option_map_or (λ r. r.values) o []) ≤ LONGEST_RECORD)
  values-found i None is = (All-nil (IsValue heap), omega arith)
  values-found i (Some r) is = let found = found-record i r is in (found.values, found.short)

  value_in-value : (i : Identity) (x : ℕ) → IfOk (value_in heap i x) (IsValue heap)
  value_in-value i x =
      if_ok-bind (IsValue heap) (in_record (length (values_of heap i)) x) _
      (λ y. read_all (IsValue heap) (values_of heap i) y (Number 0) (values-found i (record_of heap i) refl).0 zero-value)

  board_word-value : (x : ℕ) → IsValue heap (board_word heap x)
  board_word-value x = read_all (IsValue heap) heap.board x (Number 0) is_heap.board zero-value

  board-kept : (x : ℕ) (v : Value) → IsValue heap v → IsHeap (with_board heap x v)
  board-kept x v is = record {
    board_words = length-set heap.board x v ∙ is_heap.board_words;
    board = All-weaker (IsValue heap) (IsValue (with_board heap x v)) (value-grows heap (with_board heap x v) (grows-board heap x v)) _ (All-set (IsValue heap) heap.board x v is is_heap.board);
    records = records-grow heap (with_board heap x v) (grows-board heap x v) heap.records is_heap.records;
  }

  took-kept : IsHeap (took heap)
  took-kept = record {
    board_words = is_heap.board_words;
    board = All-weaker (IsValue heap) (IsValue (took heap)) (value-grows heap (took heap) (grows-took heap)) heap.board is_heap.board;
    records = records-grow heap (took heap) (grows-took heap) heap.records is_heap.records;
  }

  -- a word of a record, which it may hold
  module _ (i : Identity) (r : Record) (x : ℕ) (v : Value) (found : record_of heap i ≡ Some r) (is : IsValue heap v) (raw : is_raw r.kind (word_of_value r.kind x) ≡ true → IsNumber v) where
    next : Heap
    next = stored heap i r x v

    raw_as : (y : ℕ) (u : Value) → (y ≡ x) ⊎ (y ≡ x → ⊥) → slice_get (slice_set r.values x v) y ≡ Some u → is_raw r.kind (word_of_value r.kind y) ≡ true → IsNumber u
    raw_as y u (inl e) at is_raw_word =
        let within : y < length r.values = omega (arith, slice_get_within (slice_set r.values x v) y u at, length-set r.values x v) in
        subst IsNumber (set-found r.values x y v u e (omega arith) at) (raw (ap (λ z. is_raw r.kind (word_of_value r.kind z)) (sym e) ∙ is_raw_word))
    raw_as y u (inr other) at is_raw_word = (found-record i r found).raw y u (sym (slice_get-set_other r.values x y v other) ∙ at) is_raw_word

    written-record : IsRecord heap (with_value r x v)
    written-record = record {
      short = omega (arith, length-set r.values x v, (found-record i r found).short);
      values = All-set (IsValue heap) r.values x v is (found-record i r found).values;
      raw = λ y u at. raw_as y u (cases_eq y x) at;
    }

    pub stored-kept : IsHeap (stored heap i r x v)
    stored-kept =
        let grows = stored_made heap i r x v found in
        record {
          board_words = is_heap.board_words;
          board = All-weaker (IsValue heap) (IsValue (stored heap i r x v)) (value-grows heap (stored heap i r x v) grows) heap.board is_heap.board;
          records = records-grow heap (stored heap i r x v) grows (stored heap i r x v).records
              (All-set (All (IsRecord heap)) heap.records i.mutator _ (All-set (IsRecord heap) (made_by heap i.mutator) _ (with_value r x v) written-record (list-records i.mutator)) is_heap.records);
        }

  -- what fills a record is a value, and a number where the record has plain numbers
  filled-value : (kind : Kind) (v : Value) → FillsKind (IsValue heap) kind v → IsValue heap v
  filled-value Weak v fills = fills
  filled-value _ v fills = subst (IsValue heap) (sym fills) zero-value

  filled-raw : (kind : Kind) (word : ℕ) (v : Value) → FillsKind (IsValue heap) kind v → is_raw kind word ≡ true → IsNumber v
  filled-raw Weak word v fills raw = absurd cc
  filled-raw _ word v fills raw = subst IsNumber (sym fills) (omega arith)

  -- a record that is filled
  module _ (m n : ℕ) (kind : Kind) (v : Value) (within : m < length heap.records) (short : n ≤ LONGEST_RECORD) (fills : FillsKind (IsValue heap) kind v) where
    filled-record : IsRecord heap (filled kind n v)
    filled-record = record {
      short = rw (length-replicate n v) short;
      values = All-replicate (IsValue heap) n v (filled-value kind v fills);
      raw = λ x u at raw. subst IsNumber (sym (slice_get-replicate n x v u at)) (filled-raw kind (word_of_value kind x) v fills raw);
    }

    pub gained-kept : IsHeap (gained heap m (filled kind n v))
    gained-kept =
        let grows = gained_made heap m (filled kind n v) within in
        record {
          board_words = is_heap.board_words;
          board = All-weaker (IsValue heap) (IsValue (gained heap m (filled kind n v))) (value-grows heap (gained heap m (filled kind n v)) grows) heap.board is_heap.board;
          records = records-grow heap (gained heap m (filled kind n v)) grows (gained heap m (filled kind n v)).records
              (All-set (All (IsRecord heap)) heap.records m _ (All-push (IsRecord heap) (made_by heap m) (filled kind n v) (list-records m) filled-record) is_heap.records);
        }

-- ---- the instructions

-- the heap and the mutator after an instruction
pub record AfterIsConsistent (was : Heap) (after : After) : Type 0 where
  pub heap : IsHeap after.heap
  pub mutator : IsMutator after.heap after.mutator
  pub grows : HeapGrows was after.heap
  pub as_many : length after.heap.records ≡ length was.records

module _ (m : ℕ) (heap : Heap) (k : Mutator) (is_heap : IsHeap heap) (is_mutator : IsMutator heap k) (within : m < length heap.records) where
  register-value : (r : ℕ) → IsValue heap (register k r)
  register-value r = read_all (IsValue heap) k.registers r (Number 0) is_mutator.registers (omega arith)

  next_of-small : next_of k < NUMBERS
  next_of-small = remainder-small (k.counter + 1)

  jumped-kept : (next : Heap) (d target : ℕ) (v : Value) → HeapGrows heap next → IsValue next v → target < NUMBERS → IsMutator next (jumped (set_register k d v) target)
  jumped-kept next d target v grows is small =
      let kept = mutator-grows heap next grows k is_mutator in
      record {
        counter = small;
        register_count = length-set k.registers d v ∙ kept.register_count;
        registers = All-set (IsValue next) k.registers d v is kept.registers;
        few_printed = kept.few_printed;
        printed = kept.printed;
      }

  same : HeapGrows heap heap
  same i made = made

  -- the mutator goes on, and the heap stays
  jumps-kept : (target : ℕ) → target < NUMBERS → AfterIsConsistent heap (record { heap = heap; mutator = jumped k target })
  jumps-kept target small = record {
    heap = is_heap;
    mutator = record { counter = small; register_count = is_mutator.register_count; registers = is_mutator.registers; few_printed = is_mutator.few_printed; printed = is_mutator.printed };
    grows = same;
    as_many = refl;
  }

  links-kept : (d target : ℕ) (v : Value) → IsValue heap v → target < NUMBERS → AfterIsConsistent heap (record { heap = heap; mutator = jumped (set_register k d v) target })
  links-kept d target v is small = record { heap = is_heap; mutator = jumped-kept heap d target v same is small; grows = same; as_many = refl }

  loads-kept : (d : ℕ) (v : Value) → IsValue heap v → AfterIsConsistent heap (loads heap k d v)
  loads-kept d v is = links-kept d (next_of k) v is next_of-small

  allocated-kept : (kind : Kind) (d n : ℕ) (v : Value) → n ≤ LONGEST_RECORD → FillsKind (IsValue heap) kind v → AfterIsConsistent heap (allocated m heap k kind d n v)
  allocated-kept kind d n v short fills = record {
    heap = gained-kept heap is_heap m n kind v within short fills;
    mutator = jumped-kept (gained heap m (filled kind n v)) d (next_of k) (Reference (record { mutator = m; serial = serial_of heap m + 1 }))
        (gained_made heap m (filled kind n v) within) (gained_newest heap m (filled kind n v) within) next_of-small;
    grows = gained_made heap m (filled kind n v) within;
    as_many = gained_makers heap m (filled kind n v) within;
  }

  -- a store, after which the mutator is this
  module _ (l : Mutator) (is_l : IsMutator heap l) where
    stored-kept_in : (i : Identity) (r : Record) (x : ℕ) (o : Result Value End) → record_of heap i ≡ Some r → IfOk o (λ v. IsValue heap v × (is_raw r.kind (word_of_value r.kind x) ≡ true → IsNumber v))
        → IfOk ((o >>= (λ v. Ok (stored heap i r x v))) >>= (λ h. Ok (record { heap = h; mutator = l }))) (AfterIsConsistent heap)
    stored-kept_in i r x (Ok v) found is = record {
      heap = stored-kept heap is_heap i r x v found is.0 is.1;
      mutator = mutator-grows heap (stored heap i r x v) (stored_made heap i r x v found) l is_l;
      grows = stored_made heap i r x v found;
      as_many = stored_makers heap i r x v found;
    }
    stored-kept_in i r x (Err why) found is = tt

    stores-kept : (i : Identity) (o : Option Record) (x : ℕ) (v : Value) → record_of heap i ≡ o → IsValue heap v → IfOk (store_in heap i o x v >>= (λ h. Ok (record { heap = h; mutator = l }))) (AfterIsConsistent heap)
    stores-kept i None x v found is = tt
    stores-kept i (Some r) x v found is = stored-kept_in i r x (may_hold r.kind x v) found (held-value heap r.kind x v is)

  boards-kept : (x : ℕ) (v : Value) (k' : Mutator) → IsValue heap v → IsMutator heap k' → AfterIsConsistent heap (record { heap = with_board heap x v; mutator = k' })
  boards-kept x v k' is is' = record {
    heap = board-kept heap is_heap x v is;
    mutator = mutator-grows heap (with_board heap x v) (grows-board heap x v) k' is';
    grows = grows-board heap x v;
    as_many = refl;
  }

  printed-kept : (n : ℕ) → n < NUMBERS → length k.printed < MOST_PRINTED → AfterIsConsistent heap (record { heap = heap; mutator = went_on (record k { printed = k.printed ++ n ∷ [] }) })
  printed-kept n small few = record {
    heap = is_heap;
    mutator = record {
      counter = next_of-small;
      register_count = is_mutator.register_count;
      registers = is_mutator.registers;
      few_printed = omega (arith, length-append k.printed (n ∷ []), few);
      printed = All-push (λ n. n < NUMBERS) k.printed n is_mutator.printed small;
    };
    grows = same;
    as_many = refl;
  }

  performed-kept : (act : Action) → Names (IsValue heap) ⊤ k act → IfOk (performed m heap k act) (AfterIsConsistent heap)
  performed-kept (Sets d v) is = loads-kept d v is
  performed-kept (Jumps target) is = jumps-kept target is
  performed-kept (Links d target) is = links-kept d target (Number (next_of k)) next_of-small is
  performed-kept (Prints n) is = printed-kept n is.0 is.1
  performed-kept (Makes kind d n v) is = allocated-kept kind d n v (fits-short kind n is.0) is.1
  performed-kept (Measures d i) is = loads-kept d (Number (length (values_of heap i))) (omega (arith, (values-found heap is_heap i (record_of heap i) refl).1))
  performed-kept (Loads d i x) is = if_ok-then (IsValue heap) (AfterIsConsistent heap) (value_in heap i x) _ (value_in-value heap is_heap i x) (λ v is_v. loads-kept d v is_v)
  performed-kept (Stores i x v) is = if_ok-bind (AfterIsConsistent heap) (value_in heap i x) _ (λ old. stores-kept (went_on k) (jumps-kept (next_of k) next_of-small).mutator i (record_of heap i) x v refl is.1)
  performed-kept (Compares d i x expected new) is =
      performed_exchange m heap k d i x expected new (AfterIsConsistent heap) (loads-kept d (Number 0) (omega arith))
      (stores-kept (went_on (set_register k d (Number 1))) (loads-kept d (Number 1) (omega arith)).mutator i (record_of heap i) x new refl is.2)
  performed-kept (Gets d x) is = loads-kept d (board_word heap x) (board_word-value heap is_heap x)
  performed-kept (Puts x v) is = boards-kept x v (went_on k) is.2 (jumps-kept (next_of k) next_of-small).mutator
  performed-kept (Swaps d x v) is =
      let old = board_word heap x in
      boards-kept x v (went_on (set_register k d old)) is.2 (loads-kept d old (board_word-value heap is_heap x)).mutator
  performed-kept Snaps is = record {
    heap = took-kept heap is_heap;
    mutator = mutator-grows heap (took heap) (grows-took heap) (went_on k) (jumps-kept (next_of k) next_of-small).mutator;
    grows = grows-took heap;
    as_many = refl;
  }

  target-small : (target : ℕ) → is_target target ≡ true → target < NUMBERS
  target-small target valid = omega (arith, leb-true target 65536 valid)

  spells : (i : Instr) → is_valid i ≡ true → Spells (IsValue heap) ⊤ i
  spells (instrs.Li d n) valid = ltb-true n NUMBERS (and_parts (is_register d) (is_number n) valid).1
  spells (instrs.Jmp target) valid = target-small target valid
  spells (instrs.Jz a target) valid = target-small target (and_parts (is_register a) (is_target target) valid).1
  spells (instrs.Jal d target) valid = target-small target (and_parts (is_register d) (is_target target) valid).1
  spells _ valid = tt

  action-good : (i : Instr) → is_valid i ≡ true → IfOk (action k i) (Names (IsValue heap) ⊤ k)
  action-good i valid = named (IsValue heap) ⊤ k register-value next_of-small one_if-small (λ operation a b small is. applied-small operation a b small) i (spells i valid)

  pub call-kept : (i : Instr) → is_valid i ≡ true → IfOk (call m heap k i) (AfterIsConsistent heap)
  unfolding call
  call-kept i valid = if_ok-then (Names (IsValue heap) ⊤ k) (AfterIsConsistent heap) (action k i) (performed m heap k) (action-good i valid) performed-kept
