-- What an instruction does to the words of records, and to their kinds and lengths.
use Rattle.std.proofs.Common.{◌≡◌, ◌≢◌, ℕ, zero, suc, ◌<◌, ◌≤◌, Bool, true, false, cond, nat_lt, ◌==◌, ◌&&◌, List, [], ◌∷◌, ◌++◌, length, replicate, Option, Some, None, Result, Ok, Err, slice_index_or, slice_set, get_or, refl, ap, sym, subst, ◌∙◌, ⊎_elim, eq-eqb, ne_eqb, length-set, get_or-set_same, get_or-set_other}
use Rattle.std.specs.Bool.{⊤}
use Rattle.std.specs.Option.{option_map, option_map_or}
use Rattle.std.specs.Result.{IfOk}
use Rattle.std.proofs.lemmas.Bool.{and_parts, cases_eq, cases_lt, eqb-true, ltb-true}
use Rattle.std.proofs.lemmas.List.{set_past}
use Rattle.plain_state.specs.declared.end.End.{End}
use Rattle.plain_state.specs.declared.end.End.TheVariants.{OutOfRange, WeakCell}
use Rattle.plain_state.specs.declared.kind.Kind.{Kind}
use Rattle.plain_state.specs.declared.kind.Kind.TheVariants.{Fields, Raw, Mixed, Weak}
use Rattle.plain_state.specs.declared.value.Identity.{Identity}
use Rattle.plain_state.specs.declared.value.Value.{Value}
use Rattle.plain_state.specs.declared.value.Value.TheVariants.{Number, Reference}
use Rattle.plain_state.specs.Operation.{applied}
use Rattle.plain_state.specs.State.{Record, Heap, Mutator, made_by, at_serial, record_of}
use Rattle.plain_state.specs.Writing.{stored, gained, with_value}
use Rattle.plain_state.proofs.Gained.{gained_elsewhere}
use Rattle.plain_state.proofs.Stored.{stored_elsewhere, stored_there}
use Rattle.mutator_asm.specs.declared.instr.Instr.{Instr}
use Rattle.mutator_asm.specs.declared.instr.Instr.TheVariants as instrs
use Rattle.plain_heap.specs.declared.action.Action.{Action}
use Rattle.plain_heap.specs.declared.action.Action.TheVariants.{Makes, Loads, Stores, Compares}
use Rattle.plain_heap.specs.Action.{◌>>=◌, are_same, action}
use Rattle.plain_heap.specs.Call.{After, value_in, values_of, as_plain, may_hold, store_in, is_cell, words_in, filled, loads, performed, call, went_on}
use Rattle.plain_heap.specs.Records.{ExchangesFindTheWord, IsExchanged, LoadsTakeTheWord, OnlyStoresChangeWords, RecordShape, ShapesStay, is_word, loaded_there, record_word, shape, shape_of, word_after}
use Rattle.plain_heap.proofs.Calls.CallOutcomes.{if_ok-bind, if_ok-is}
use Rattle.plain_heap.proofs.Calls.Named.{Names, FillsKind, Spells, named}

-- ---- words

-- a word of a record is the same, however it is named
same_word : (heap : Heap) (j : Identity) (y : ℕ) (i : Identity) (x : ℕ) → is_word j y i x ≡ true → record_word heap j y ≡ record_word heap i x
same_word heap j y i x is =
    let at = and_parts (are_same (Reference j) (Reference i)) (y == x) is in
    let of = and_parts (j.mutator == i.mutator) (j.serial == i.serial) at.0 in
    let e : j.mutator ≡ i.mutator = eqb-true j.mutator i.mutator of.0 in
    let f : j.serial ≡ i.serial = eqb-true j.serial i.serial of.1 in
    let g : y ≡ x = eqb-true y x at.1 in
    λ t. get_or (option_map_or words_in (at_serial (made_by heap (e t)) (f t)) []) (g t) (Number 0)

-- ---- a new record

-- word x of a record, if there is one that is no cell
abbrev word_in : Option Record → ℕ → Value
word_in o x = get_or (option_map_or words_in o []) x (Number 0)

zero_words : (n x : ℕ) → get_or (replicate n (Number 0)) x (Number 0) ≡ Number 0
zero_words zero x = refl
zero_words (suc n) zero = refl
zero_words (suc n) (suc x) = zero_words n x

filled_words : (P : Value → Type 0) (kind : Kind) (n : ℕ) (v : Value) (x : ℕ) → FillsKind P kind v → word_in (Some (filled kind n v)) x ≡ Number 0
filled_words P Weak n v x fills = refl
filled_words P _ n v x fills = rw fills (zero_words n x)

-- it begins with the words that it was read with before
words_more : (records : List Record) (serial x : ℕ) (r : Record) → word_in (Some r) x ≡ Number 0 → word_in (at_serial (records ++ r ∷ []) serial) x ≡ word_in (at_serial records serial) x
words_more records zero x new zeros = refl
words_more [] (suc zero) x new zeros = zeros
words_more [] (suc (suc k)) x new zeros = refl
words_more (r ∷ rs) (suc zero) x new zeros = refl
words_more (r ∷ rs) (suc (suc k)) x new zeros = words_more rs (suc k) x new zeros

module _ (heap : Heap) (m : ℕ) (kind : Kind) (n : ℕ) (v : Value) (i : Identity) where
  abbrev grown : List Record
  grown = made_by heap m ++ filled kind n v ∷ []

  gained_words : (P : Value → Type 0) (x : ℕ) → FillsKind P kind v → record_word (gained heap m (filled kind n v)) i x ≡ record_word heap i x
  gained_words P x fills = ⊎_elim
      (λ (within : m < length heap.records). ⊎_elim
      (λ (e : i.mutator ≡ m). rw (e, get_or-set_same heap.records m grown [] within) (words_more (made_by heap m) i.serial x (filled kind n v) (filled_words P kind n v x fills)))
      (λ (other : i.mutator ≢ m). rw (get_or-set_other heap.records m i.mutator grown [] other) refl)
      (cases_eq i.mutator m))
      (λ (past : length heap.records ≤ m). rw (set_past heap.records m grown past) refl)
      (cases_lt m (length heap.records))

  gained_shape : (s : RecordShape) → shape_of heap i ≡ Some s → shape_of (gained heap m (filled kind n v)) i ≡ Some s
  gained_shape s has = ⊎_elim
      (λ (within : m < length heap.records). by_record within (record_of heap i) refl)
      (λ (past : length heap.records ≤ m). rw (set_past heap.records m grown past) has)
      (cases_lt m (length heap.records))
    where
      by_record : m < length heap.records → (o : Option Record) → record_of heap i ≡ o → shape_of (gained heap m (filled kind n v)) i ≡ Some s
      by_record within None is = absurd (let none : None ≡ Some s = sym (ap (option_map shape) is) ∙ has in cc)
      by_record within (Some r) is = ap (option_map shape) (gained_elsewhere heap m (filled kind n v) within i r is) ∙ (sym (ap (option_map shape) is) ∙ has)

-- ---- a store

plain_same : (v w : Value) → as_plain v ≡ Ok w → v ≡ w
plain_same (Number n) w is = cc
plain_same (Reference i) w is = cc

pub held_same : (kind : Kind) (x : ℕ) (v w : Value) → may_hold kind x v ≡ Ok w → v ≡ w
held_same Fields x v w is = cc
held_same Raw x v w is = plain_same v w is
held_same Weak x v w is = cc
held_same (Mixed count) x v w is = mixed_same (nat_lt x count) is
  where
    mixed_same : (b : Bool) → cond b (Ok v) (as_plain v) ≡ Ok w → v ≡ w
    mixed_same true h = cc
    mixed_same false h = plain_same v w h

-- in word y of record j, which is r
module _ (heap : Heap) (j : Identity) (r : Record) (y : ℕ) (v : Value) (found : record_of heap j ≡ Some r) (i : Identity) where
  abbrev after : Heap
  after = stored heap j r y v

  same_record : (h : Heap) → j.mutator ≡ i.mutator → j.serial ≡ i.serial → record_of h j ≡ record_of h i
  same_record h e f = λ t. at_serial (made_by h (e t)) (f t)

  it : j.mutator ≡ i.mutator → j.serial ≡ i.serial → record_of after i ≡ Some (with_value r y v)
  it e f = sym (same_record after e f) ∙ stored_there heap j r y v found

  it_was : j.mutator ≡ i.mutator → j.serial ≡ i.serial → record_of heap i ≡ Some r
  it_was e f = sym (same_record heap e f) ∙ found

  apart : (j.mutator ≡ i.mutator → j.serial ≢ i.serial) → record_of after i ≡ record_of heap i
  apart other = stored_elsewhere heap j r y v found i (λ e f. other (sym e) (sym f))

  same_shape : shape (with_value r y v) ≡ shape r
  same_shape = λ t. record { kind = r.kind; len = length-set r.values y v t }

  pub stored_shape : shape_of after i ≡ shape_of heap i
  stored_shape = ⊎_elim
      (λ (e : j.mutator ≡ i.mutator). ⊎_elim
      (λ (f : j.serial ≡ i.serial). ap (option_map shape) (it e f) ∙ (ap (λ (z : RecordShape). Some z) same_shape ∙ sym (ap (option_map shape) (it_was e f))))
      (λ (d : j.serial ≢ i.serial). ap (option_map shape) (apart (λ e. d)))
      (cases_eq j.serial i.serial))
      (λ (d : j.mutator ≢ i.mutator). ap (option_map shape) (apart (λ e. absurd (d e))))
      (cases_eq j.mutator i.mutator)

  -- in a cell it changes no word that is loaded
  pub cell_word : is_cell r.kind ≡ true → (x : ℕ) → record_word after i x ≡ record_word heap i x
  cell_word cell x = ⊎_elim
      (λ (e : j.mutator ≡ i.mutator). ⊎_elim
      (λ (f : j.serial ≡ i.serial). read after (slice_set r.values y v) (it e f) ∙ sym (read heap r.values (it_was e f)))
      (λ (d : j.serial ≢ i.serial). ap (λ (o : Option Record). word_in o x) (apart (λ e. d)))
      (cases_eq j.serial i.serial))
      (λ (d : j.mutator ≢ i.mutator). ap (λ (o : Option Record). word_in o x) (apart (λ e. absurd (d e))))
      (cases_eq j.mutator i.mutator)
    where
      read : (h : Heap) (values : List Value) → record_of h i ≡ Some (record r { values = values }) → record_word h i x ≡ get_or [] x (Number 0)
      read h values is = ap (λ (o : Option Record). word_in o x) is ∙ ap (λ (b : Bool). get_or (cond b [] values) x (Number 0)) cell

  module _ (x : ℕ) (no_cell : is_cell r.kind ≡ false) (inside : y < length r.values) where
    -- its words are its values
    word_there : (h : Heap) (values : List Value) → record_of h i ≡ Some (record r { values = values }) → record_word h i x ≡ get_or values x (Number 0)
    word_there h values is = ap (λ (o : Option Record). word_in o x) is ∙ ap (λ (b : Bool). get_or (cond b [] values) x (Number 0)) no_cell

    abbrev IsStored : Type 0
    IsStored = record_word after i x ≡ word_after (Ok (Stores j y v)) i x (record_word heap i x)

    here : j.mutator ≡ i.mutator → j.serial ≡ i.serial → IsStored
    here e f = ⊎_elim
        (λ (same : y ≡ x). rw (eq-eqb j.mutator i.mutator e, eq-eqb j.serial i.serial f, eq-eqb y x same)
        (word_there after (slice_set r.values y v) (it e f) ∙ (ap (λ (n : ℕ). get_or (slice_set r.values y v) n (Number 0)) (sym same) ∙ get_or-set_same r.values y v (Number 0) inside)))
        (λ (other : y ≢ x). rw (eq-eqb j.mutator i.mutator e, eq-eqb j.serial i.serial f, ne_eqb y x other)
        (word_there after (slice_set r.values y v) (it e f) ∙ (get_or-set_other r.values y x v (Number 0) (λ s. other (sym s)) ∙ sym (word_there heap r.values (it_was e f)))))
        (cases_eq y x)

    stored_word : IsStored
    stored_word = ⊎_elim
        (λ (e : j.mutator ≡ i.mutator). ⊎_elim
        (λ (f : j.serial ≡ i.serial). here e f)
        (λ (d : j.serial ≢ i.serial). rw (eq-eqb j.mutator i.mutator e, ne_eqb j.serial i.serial d) (ap (λ (o : Option Record). word_in o x) (apart (λ e. d))))
        (cases_eq j.serial i.serial))
        (λ (d : j.mutator ≢ i.mutator). rw (ne_eqb j.mutator i.mutator d) (ap (λ (o : Option Record). word_in o x) (apart (λ e. absurd (d e)))))
        (cases_eq j.mutator i.mutator)

-- ---- an instruction

-- nothing is asked of a value
abbrev Any : Value → Type 0
Any v = ⊤

any_spelled : (i : Instr) → Spells Any ⊤ i
any_spelled (instrs.Li d n) = tt
any_spelled _ = tt

any_computed : (o : Result ℕ End) → IfOk o (λ n. ⊤)
any_computed (Ok n) = tt
any_computed (Err why) = tt

named_by : (k : Mutator) (i : Instr) → IfOk (action k i) (Names Any ⊤ k)
named_by k i = named Any ⊤ k (λ r. tt) tt (λ b. tt) (λ operation a b is_a is_b. any_computed (applied operation a b)) i (any_spelled i)

module _ (m : ℕ) (heap : Heap) (k : Mutator) (i : Identity) where
  -- whatever is so of the heap after a store, where it has its effect
  module _ (P : After → Type 0) (j : Identity) (y : ℕ) (v : Value) (leave : (found : Value) → Heap → After)
      (so : (r : Record) → record_of heap j ≡ Some r → is_cell r.kind ≡ false → y < length r.values → P (leave (record_word heap j y) (stored heap j r y v))) where
    by_held : (r : Record) → record_of heap j ≡ Some r → is_cell r.kind ≡ false → y < length r.values → (o : Result Value End) → may_hold r.kind y v ≡ o
        → IfOk ((o >>= (λ w. Ok (stored heap j r y w))) >>= (λ h. Ok (leave (record_word heap j y) h))) P
    by_held r found no_cell inside (Ok w) is = rw (← held_same r.kind y v w is) (so r found no_cell inside)
    by_held r found no_cell inside (Err why) is = tt

    -- a cell holds no other value
    held_by_none : (kind : Kind) → is_cell kind ≡ true → may_hold kind y v ≡ Err WeakCell
    held_by_none Weak cell = refl
    held_by_none _ cell = absurd (cc)

    by_kind : (r : Record) → record_of heap j ≡ Some r → y < length r.values → (cell : Bool) → is_cell r.kind ≡ cell
        → IfOk (store_in heap j (Some r) y v >>= (λ h. Ok (leave (get_or r.values y (Number 0)) h))) P
    by_kind r found inside true is = rw (held_by_none r.kind is) tt
    by_kind r found inside false is =
        let its : record_word heap j y ≡ get_or r.values y (Number 0) = ap (λ (o : Option Record). word_in o y) found ∙ ap (λ (b : Bool). get_or (cond b [] r.values) y (Number 0)) is in
        subst (λ (old : Value). IfOk (store_in heap j (Some r) y v >>= (λ h. Ok (leave old h))) P) its (by_held r found is inside (may_hold r.kind y v) refl)

    by_record : (o : Option Record) → record_of heap j ≡ o → y < length (option_map_or (λ r. r.values) o [])
        → IfOk (store_in heap j o y v >>= (λ h. Ok (leave (get_or (option_map_or (λ r. r.values) o []) y (Number 0)) h))) P
    by_record None found inside = tt
    by_record (Some r) found inside = by_kind r found inside (is_cell r.kind) refl

    by_place : (b : Bool) → nat_lt y (length (values_of heap j)) ≡ b
        → IfOk ((cond b (Ok y) (Err OutOfRange) >>= (λ z. Ok (slice_index_or (values_of heap j) z (Number 0)))) >>= (λ old. store_in heap j (record_of heap j) y v >>= (λ h. Ok (leave old h)))) P
    by_place true is = by_record (record_of heap j) refl (ltb-true y (length (values_of heap j)) is)
    by_place false is = tt

    -- the word is there, and the record may hold the value
    pub performed_as : IfOk (value_in heap j y >>= (λ old. store_in heap j (record_of heap j) y v >>= (λ h. Ok (leave old h)))) P
    performed_as = by_place (nat_lt y (length (values_of heap j))) refl

  abbrev pub goes_on : Value → Heap → After
  goes_on found h = record { heap = h; mutator = went_on k }

  -- what an exchange leaves that finds this, if its store leaves this heap
  abbrev pub exchanged : (d : ℕ) (expected found : Value) → Heap → After
  exchanged d expected found h = cond (are_same found expected) (loads h k d (Number 1)) (loads heap k d (Number 0))

  -- ---- words

  module _ (x : ℕ) where
    abbrev IsWritten : Result Action End → After → Type 0
    IsWritten act after = record_word after.heap i x ≡ word_after act i x (record_word heap i x)

    -- an exchange stores where the word is what it expects
    stores_if : (j : Identity) (y d : ℕ) (expected v : Value) (b : Bool) → are_same (record_word heap j y) expected ≡ b
        → word_after (Ok (Compares d j y expected v)) i x (record_word heap i x) ≡ cond b (word_after (Ok (Stores j y v)) i x (record_word heap i x)) (record_word heap i x)
    stores_if j y d expected v b is = by_word (is_word j y i x) refl b is
      where
        by_word : (here : Bool) → is_word j y i x ≡ here → (b : Bool) → are_same (record_word heap j y) expected ≡ b
            → cond (here && are_same (record_word heap i x) expected) v (record_word heap i x) ≡ cond b (cond here v (record_word heap i x)) (record_word heap i x)
        by_word true here true is = rw (← same_word heap j y i x here, is) refl
        by_word true here false is = rw (← same_word heap j y i x here, is) refl
        by_word false here true is = refl
        by_word false here false is = refl

    exchange_words : (j : Identity) (y d : ℕ) (expected v : Value) (r : Record) → record_of heap j ≡ Some r → is_cell r.kind ≡ false → y < length r.values → (b : Bool) → are_same (record_word heap j y) expected ≡ b
        → IsWritten (Ok (Compares d j y expected v)) (cond b (loads (stored heap j r y v) k d (Number 1)) (loads heap k d (Number 0)))
    exchange_words j y d expected v r found no_cell inside true is = stored_word heap j r y v found i x no_cell inside ∙ sym (stores_if j y d expected v true is)
    exchange_words j y d expected v r found no_cell inside false is = sym (stores_if j y d expected v false is)

    -- a new record that is no cell begins with zeros
    performed_words : (act : Action) → Names Any ⊤ k act → IfOk (performed m heap k act) (IsWritten (Ok act))
    performed_words (Makes kind d n v) is = gained_words heap m kind n v i Any x is.1
    performed_words (Loads d j y) is = if_ok-bind (IsWritten (Ok (Loads d j y))) (value_in heap j y) _ (λ v. refl)
    performed_words (Stores j y v) is = performed_as (IsWritten (Ok (Stores j y v))) j y v goes_on (λ r found no_cell inside. stored_word heap j r y v found i x no_cell inside)
    performed_words (Compares d j y expected v) is =
        performed_as (IsWritten (Ok (Compares d j y expected v))) j y v (exchanged d expected)
        (λ r found no_cell inside. exchange_words j y d expected v r found no_cell inside (are_same (record_word heap j y) expected) refl)
    performed_words _ is = refl

    words_by : (o : Result Action End) → IfOk o (Names Any ⊤ k) → IfOk (o >>= performed m heap k) (IsWritten o)
    words_by (Ok act) is = performed_words act is
    words_by (Err why) is = tt

  -- ---- kinds and lengths

  module _ (s : RecordShape) (has : shape_of heap i ≡ Some s) where
    abbrev HasShape : After → Type 0
    HasShape after = shape_of after.heap i ≡ Some s

    exchange_shape : (j : Identity) (y d : ℕ) (expected v : Value) (r : Record) → record_of heap j ≡ Some r → (b : Bool) → HasShape (cond b (loads (stored heap j r y v) k d (Number 1)) (loads heap k d (Number 0)))
    exchange_shape j y d expected v r found true = stored_shape heap j r y v found i ∙ has
    exchange_shape j y d expected v r found false = has

    performed_shape : (act : Action) → IfOk (performed m heap k act) HasShape
    performed_shape (Makes kind d n v) = gained_shape heap m kind n v i s has
    performed_shape (Loads d j y) = if_ok-bind HasShape (value_in heap j y) _ (λ v. has)
    performed_shape (Stores j y v) = performed_as HasShape j y v goes_on (λ r found no_cell inside. stored_shape heap j r y v found i ∙ has)
    performed_shape (Compares d j y expected v) = performed_as HasShape j y v (exchanged d expected) (λ r found no_cell inside. exchange_shape j y d expected v r found (are_same (record_word heap j y) expected))
    performed_shape _ = has

    shape_by : (o : Result Action End) → IfOk (o >>= performed m heap k) HasShape
    shape_by (Ok act) = performed_shape act
    shape_by (Err why) = tt

pub only_stores_change_words : OnlyStoresChangeWords
unfolding call
only_stores_change_words m heap k instr after i x is = if_ok-is (IsWritten m heap k i x (action k instr)) (call m heap k instr) after (words_by m heap k i x (action k instr) (named_by k instr)) is

pub shapes_stay : ShapesStay
unfolding call
shapes_stay m heap k instr after i s is has = if_ok-is (HasShape m heap k i s has) (call m heap k instr) after (shape_by m heap k i s has (action k instr)) is

-- ---- a load

module _ (heap : Heap) (k : Mutator) (d : ℕ) (i : Identity) (x : ℕ) where
  abbrev IsLoaded : After → Type 0
  IsLoaded after = after ≡ loads heap k d (loaded_there heap i x (record_word heap i x))

  -- a word that is none of a cell is a word that is stored
  value_is : (o : Option Record) → get_or (option_map_or (λ (r : Record). r.values) o []) x (Number 0)
      ≡ cond (option_map_or (λ (r : Record). is_cell r.kind) o false) (get_or (option_map_or (λ (r : Record). r.values) o []) x (Number 0)) (word_in o x)
  value_is None = refl
  value_is (Some r) = by_kind (is_cell r.kind) refl
    where
      by_kind : (cell : Bool) → is_cell r.kind ≡ cell → get_or r.values x (Number 0) ≡ cond cell (get_or r.values x (Number 0)) (get_or (cond cell [] r.values) x (Number 0))
      by_kind true is = refl
      by_kind false is = refl

  loaded : (b : Bool) → IfOk ((cond b (Ok x) (Err OutOfRange) >>= (λ z. Ok (slice_index_or (values_of heap i) z (Number 0)))) >>= (λ v. Ok (loads heap k d v))) IsLoaded
  loaded true = ap (λ (v : Value). loads heap k d v) (value_is (record_of heap i))
  loaded false = tt

pub loads_take_the_word : LoadsTakeTheWord
unfolding call
loads_take_the_word m heap k instr after d i x load is =
    if_ok-is (IsLoaded heap k d i x) (call m heap k instr) after (rw load (loaded heap k d i x (nat_lt x (length (values_of heap i))))) is

-- ---- an exchange

module _ (m : ℕ) (heap : Heap) (k : Mutator) (d : ℕ) (i : Identity) (x : ℕ) (expected new : Value) where
  abbrev IsExchangedThere : After → Type 0
  IsExchangedThere = IsExchanged heap k d (record_word heap i x) expected

  exchange_by : (r : Record) (b : Bool) → are_same (record_word heap i x) expected ≡ b → IsExchangedThere (cond b (loads (stored heap i r x new) k d (Number 1)) (loads heap k d (Number 0)))
  exchange_by r true is = record { mutator_is = rw is refl; fails = λ other. cc }
  exchange_by r false is = record { mutator_is = rw is refl; fails = λ other. refl }

  exchanged_there : IfOk (performed m heap k (Compares d i x expected new)) IsExchangedThere
  exchanged_there = performed_as m heap k i IsExchangedThere i x new (exchanged m heap k i d expected) (λ r found no_cell inside. exchange_by r (are_same (record_word heap i x) expected) refl)

pub exchanges_find_the_word : ExchangesFindTheWord
unfolding call
exchanges_find_the_word m heap k instr after d i x expected new act is =
    if_ok-is (IsExchanged heap k d (record_word heap i x) expected) (call m heap k instr) after (rw act (exchanged_there m heap k d i x expected new)) is
