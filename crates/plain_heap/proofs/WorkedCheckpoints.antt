-- The worked checkpoints: what their boards lead to, and their texts.
use Rattle.std.proofs.Common.{◌≡◌, ℕ, zero, suc, true, inl, inr, List, [], ◌∷◌, replicate, Some, slice_get, refl, ap, sym, ◌∙◌, arith}
use Rattle.std.specs.Fmt.{digits}
use Rattle.std.specs.List.{All, AllPairs, Contains}
use Rattle.std.proofs.lemmas.List.Elements.{All-nil, All-cons}
use Rattle.std.proofs.lemmas.Option.{same_Some}
use Rattle.plain_state.specs.declared.kind.Kind.TheVariants.{Fields, Raw, Mixed, Weak}
use Rattle.plain_state.specs.declared.value.Identity.{Identity}
use Rattle.plain_state.specs.declared.value.Value.TheVariants.{Number, Reference}
use Rattle.plain_state.specs.Layout.{is_field, word_of_value}
use Rattle.plain_state.specs.State.{Record, Snapped}
use Rattle.plain_state.proofs.Elements.{slice_get-replicate}
use Rattle.plain_heap.specs.Checkpoints.Checkpoint.{ReachedFrom, BoardRefers, FieldRefers, IsListedBefore, KeptRecord, identities_of, IsCheckpoint, kept_record}
use Rattle.plain_heap.specs.Checkpoints.WorkedCheckpoint.{ArePrinted, one_cell, one_record, three_of_four}

abbrev named : (mutator serial : ℕ) → Identity
named mutator serial = record { mutator = mutator; serial = serial }

-- a record with its identity
abbrev found : Identity → Record → KeptRecord
found i r = record { identity = i; content = r }

-- it has that record
abbrev AsKept : Snapped → KeptRecord → Type 0
AsKept kept r = kept_record kept r.identity ≡ Some r.content

-- ---- lists

pairs-none : {X : Type 0} (R : X → X → Type 0) → AllPairs R []
pairs-none R i j d l within = absurd (omega (arith, within))

pairs-cons : {X : Type 0} (R : X → X → Type 0) (x : X) (xs : List X) → All (R x) xs → AllPairs R xs → AllPairs R (x ∷ xs)
pairs-cons R x xs first later zero zero d l within = absurd (omega (arith, l))
pairs-cons R x xs first later zero (suc j) d l within = first j d (omega (arith, within))
pairs-cons R x xs first later (suc i) zero d l within = absurd (omega (arith, l))
pairs-cons R x xs first later (suc i) (suc j) d l within = later i j d (omega (arith, l)) (omega (arith, within))

same-reference : (i j : Identity) → Some (Reference i) ≡ Some (Reference j) → i ≡ j
same-reference i j is = cc

-- no reference stands among zeros
none-in-zeros : (n x : ℕ) (i : Identity) → slice_get (replicate n (Number 0)) x ≡ Some (Reference i) → ⊥
none-in-zeros n x i is = let e : Reference i ≡ Number 0 = slice_get-replicate n x (Number 0) (Reference i) is in cc

-- what a known record refers to
refers : (kept : Snapped) (known i j : Identity) (q r : Record) (x : ℕ) → kept_record kept known ≡ Some q → known ≡ i → kept_record kept i ≡ Some r → slice_get r.values x ≡ Some (Reference j)
    → slice_get q.values x ≡ Some (Reference j)
refers kept known i j q r x known_is e is reference =
    ap (λ (w : Record). slice_get w.values x) (same_Some q r (sym known_is ∙ ap (kept_record kept) e ∙ is)) ∙ reference

-- ---- one record

abbrev five : Record
five = record { kind = Fields; values = Number 5 ∷ [] }

abbrev one : List KeptRecord
one = found (named 0 1) five ∷ []

one-board : (x : ℕ) (i : Identity) → slice_get one_record.board x ≡ Some (Reference i) → Contains (identities_of one) i
one-board zero i is = (0, omega arith, same-reference (named 0 1) i is)
one-board (suc x) i is = absurd (none-in-zeros 15 x i is)

-- it refers to none
five-field : (x : ℕ) (j : Identity) → slice_get five.values x ≡ Some (Reference j) → ⊥
five-field zero j is = cc
five-field (suc x) j is = cc

one-complete : (i : Identity) → ReachedFrom one_record i → Contains (identities_of one) i
one-complete _ (BoardRefers x i is) = one-board x i is
one-complete _ (FieldRefers i r x j reached has field is) = from (one-complete i reached)
  where
    from : Contains (identities_of one) i → Contains (identities_of one) j
    from (zero, within, e) = absurd (five-field x j (refers one_record (named 0 1) i j five r x refl e has is))
    from (suc k, within, e) = absurd (omega (arith, within))

one-is : IsCheckpoint one_record (record { board = one_record.board; records = one })
one-is = record {
  board = refl;
  rising = pairs-cons IsListedBefore (named 0 1) [] (All-nil (IsListedBefore (named 0 1))) (pairs-none IsListedBefore);
  reached = All-cons (ReachedFrom one_record) (named 0 1) [] (BoardRefers 0 (named 0 1) refl) (All-nil (ReachedFrom one_record));
  complete = one-complete;
  as_kept = All-cons (AsKept one_record) (found (named 0 1) five) [] refl (All-nil (AsKept one_record));
}

-- ---- one cell, and not the record to which it refers

abbrev cell : Record
cell = record { kind = Weak; values = Reference (named 0 1) ∷ [] }

abbrev cells : List KeptRecord
cells = found (named 0 2) cell ∷ []

cell-board : (x : ℕ) (i : Identity) → slice_get one_cell.board x ≡ Some (Reference i) → Contains (identities_of cells) i
cell-board zero i is = (0, omega arith, same-reference (named 0 2) i is)
cell-board (suc x) i is = absurd (none-in-zeros 15 x i is)

-- none of its words is a field
cell-field : (r : Record) (x : ℕ) → kept_record one_cell (named 0 2) ≡ Some r → is_field r.kind (word_of_value r.kind x) ≡ true → ⊥
cell-field r x is field =
    let none : is_field cell.kind (word_of_value cell.kind x) ≡ true = rw (← same_Some cell r is) at field in
    cc

cell-complete : (i : Identity) → ReachedFrom one_cell i → Contains (identities_of cells) i
cell-complete _ (BoardRefers x i is) = cell-board x i is
cell-complete _ (FieldRefers i r x j reached has field is) = from (cell-complete i reached)
  where
    from : Contains (identities_of cells) i → Contains (identities_of cells) j
    from (zero, within, e) = absurd (cell-field r x (ap (kept_record one_cell) e ∙ has) field)
    from (suc k, within, e) = absurd (omega (arith, within))

cell-is : IsCheckpoint one_cell (record { board = one_cell.board; records = cells })
cell-is = record {
  board = refl;
  rising = pairs-cons IsListedBefore (named 0 2) [] (All-nil (IsListedBefore (named 0 2))) (pairs-none IsListedBefore);
  reached = All-cons (ReachedFrom one_cell) (named 0 2) [] (BoardRefers 0 (named 0 2) refl) (All-nil (ReachedFrom one_cell));
  complete = cell-complete;
  as_kept = All-cons (AsKept one_cell) (found (named 0 2) cell) [] refl (All-nil (AsKept one_cell));
}

-- ---- three of four records

abbrev mixed : Record
mixed = record { kind = Mixed 1; values = Reference (named 1 2) ∷ Number 7 ∷ Number 8 ∷ [] }

abbrev empty : Record
empty = record { kind = Fields; values = [] }

abbrev raw : Record
raw = record { kind = Raw; values = Number 9 ∷ Number 10 ∷ [] }

abbrev three : List KeptRecord
three = found (named 0 2) mixed ∷ found (named 1 1) empty ∷ found (named 1 2) raw ∷ []

three-board : (x : ℕ) (i : Identity) → slice_get three_of_four.board x ≡ Some (Reference i) → Contains (identities_of three) i
three-board zero i is = (2, omega arith, same-reference (named 1 2) i is)
three-board (suc zero) i is = (0, omega arith, same-reference (named 0 2) i is)
three-board (suc (suc zero)) i is = cc
three-board (suc (suc (suc zero))) i is = (1, omega arith, same-reference (named 1 1) i is)
three-board (suc (suc (suc (suc x)))) i is = absurd (none-in-zeros 12 x i is)

-- the field of the mixed one refers to the raw one
mixed-field : (x : ℕ) (j : Identity) → slice_get mixed.values x ≡ Some (Reference j) → Contains (identities_of three) j
mixed-field zero j is = (2, omega arith, same-reference (named 1 2) j is)
mixed-field (suc zero) j is = cc
mixed-field (suc (suc zero)) j is = cc
mixed-field (suc (suc (suc x))) j is = cc

raw-field : (x : ℕ) (j : Identity) → slice_get raw.values x ≡ Some (Reference j) → ⊥
raw-field zero j is = cc
raw-field (suc zero) j is = cc
raw-field (suc (suc x)) j is = cc

empty-field : (x : ℕ) (j : Identity) → slice_get empty.values x ≡ Some (Reference j) → ⊥
empty-field x j is = cc

three-complete : (i : Identity) → ReachedFrom three_of_four i → Contains (identities_of three) i
three-complete _ (BoardRefers x i is) = three-board x i is
three-complete _ (FieldRefers i r x j reached has field is) = from (three-complete i reached)
  where
    from : Contains (identities_of three) i → Contains (identities_of three) j
    from (zero, within, e) = mixed-field x j (refers three_of_four (named 0 2) i j mixed r x refl e has is)
    from (suc zero, within, e) = absurd (empty-field x j (refers three_of_four (named 1 1) i j empty r x refl e has is))
    from (suc (suc zero), within, e) = absurd (raw-field x j (refers three_of_four (named 1 2) i j raw r x refl e has is))
    from (suc (suc (suc k)), within, e) = absurd (omega (arith, within))

three-rising : AllPairs IsListedBefore (identities_of three)
three-rising =
    let last = pairs-cons IsListedBefore (named 1 2) [] (All-nil (IsListedBefore (named 1 2))) (pairs-none IsListedBefore) in
    let two = pairs-cons IsListedBefore (named 1 1) (named 1 2 ∷ [])
    (All-cons (IsListedBefore (named 1 1)) (named 1 2) [] (inr (refl, omega arith)) (All-nil (IsListedBefore (named 1 1)))) last in
    pairs-cons IsListedBefore (named 0 2) (named 1 1 ∷ named 1 2 ∷ [])
    (All-cons (IsListedBefore (named 0 2)) (named 1 1) (named 1 2 ∷ []) (inl (omega arith))
    (All-cons (IsListedBefore (named 0 2)) (named 1 2) [] (inl (omega arith)) (All-nil (IsListedBefore (named 0 2))))) two

three-reached : All (ReachedFrom three_of_four) (identities_of three)
three-reached =
    All-cons (ReachedFrom three_of_four) (named 0 2) (named 1 1 ∷ named 1 2 ∷ []) (BoardRefers 1 (named 0 2) refl)
    (All-cons (ReachedFrom three_of_four) (named 1 1) (named 1 2 ∷ []) (BoardRefers 3 (named 1 1) refl)
    (All-cons (ReachedFrom three_of_four) (named 1 2) [] (BoardRefers 0 (named 1 2) refl) (All-nil (ReachedFrom three_of_four))))

three-as_kept : All (AsKept three_of_four) three
three-as_kept =
    let third = found (named 1 2) raw in
    let second = found (named 1 1) empty in
    All-cons (AsKept three_of_four) (found (named 0 2) mixed) (second ∷ third ∷ []) refl
    (All-cons (AsKept three_of_four) second (third ∷ []) refl
    (All-cons (AsKept three_of_four) third [] refl (All-nil (AsKept three_of_four))))

three-is : IsCheckpoint three_of_four (record { board = three_of_four.board; records = three })
three-is = record { board = refl; rising = three-rising; reached = three-reached; complete = three-complete; as_kept = three-as_kept }

-- ---- their texts

pub are_printed : ArePrinted
unfolding digits
are_printed = record {
  none = refl;
  one = (_, one-is, refl);
  three = (_, three-is, refl);
  cell = (_, cell-is, refl);
}
