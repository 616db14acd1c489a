-- The cells to be emptied, listed mutator by mutator and record by record.
use Rattle.std.proofs.Common.{◌≡◌, ℕ, zero, suc, ◌+◌, ◌<◌, Bool, true, false, cond, List, [], ◌∷◌, ◌++◌, length, map, get_or, append_assoc, append-nil, add-one, refl, ap, sym, ◌∙◌, arith}
use Rattle.std.specs.List.{filter, flat_map, range_with_len}
use Rattle.std.specs.Option.{option_map_or}
use Rattle.std.proofs.lemmas.List.{get_or_read}
use Rattle.std.proofs.lemmas.List.Concat.{flat_map-append}
use Rattle.std.proofs.lemmas.List.FromFn.{filter_of_map_range_with_len_more}
use Rattle.std.proofs.lemmas.Option.{slice_get_read}
use Rattle.plain_state.specs.declared.value.Identity.{Identity}
use Rattle.plain_state.specs.State.{Record, at_serial, made_by, Heap}
use Rattle.plain_machine.specs.Search.{is_lost, lost_among}

-- ---- among the records of one mutator

module _ (marks : List (List Bool)) (m : ℕ) (records : List Record) (before : List Identity) where
  abbrev mk : ℕ → Identity
  mk serial = record { mutator = m; serial = serial }

  abbrev IsLost : Identity → Bool
  IsLost i = option_map_or (is_lost marks) (at_serial records i.serial) false

  -- those of the first k
  abbrev lost_below : ℕ → List Identity
  lost_below k = before ++ filter IsLost (map mk (range_with_len 1 k))

  module _ (k : ℕ) (r : Record) (within : k < length records) (is : r ≡ get_or records k r) where
    tested : IsLost (mk (k + 1)) ≡ is_lost marks r
    tested =
        let e : k + 1 ≡ suc k = add-one k in
        rw (e, slice_get_read records (length records) k r refl within is) refl

    more_as : (lost : Bool) → is_lost marks r ≡ lost → lost_below (k + 1) ≡ lost_below k ++ cond lost (mk (k + 1) ∷ []) []
    more_as lost test =
        ap (λ (l : List Identity). before ++ l) (filter_of_map_range_with_len_more IsLost mk 1 k (k + 1) (omega arith) ∙ ap (λ (b : Bool). filter IsLost (map mk (range_with_len 1 k)) ++ cond b (mk (k + 1) ∷ []) []) (tested ∙ test))
        ∙ sym (append_assoc before _ _)

    -- one more, which is lost
    pub lost_more : (cells : List Identity) → is_lost marks r ≡ true → cells ≡ lost_below k → cells ++ mk (k + 1) ∷ [] ≡ lost_below (k + 1)
    lost_more cells test so_far = ap (λ (l : List Identity). l ++ mk (k + 1) ∷ []) so_far ∙ sym (more_as true test)

    -- or is not
    pub kept_more : (cells : List Identity) → is_lost marks r ≡ false → cells ≡ lost_below k → cells ≡ lost_below (k + 1)
    kept_more cells test so_far = so_far ∙ sym (append-nil (lost_below k)) ∙ sym (more_as false test)

-- ---- mutator by mutator

range_more : (a n : ℕ) → range_with_len a (n + 1) ≡ range_with_len a n ++ (a + n) ∷ []
range_more a zero = let e : a ≡ a + 0 = omega arith in ap (λ k. k ∷ []) e
range_more a (suc n) =
    let e : suc n + 1 ≡ suc (n + 1) = omega arith in
    let f : (a + 1) + n ≡ a + suc n = omega arith in
    rw e (ap (λ l. a ∷ l) (range_more (a + 1) n ∙ ap (λ k. range_with_len (a + 1) n ++ k ∷ []) f))

pub mutators_more : (marks : List (List Bool)) (heap : Heap) (m : ℕ) (records : List Record) (before cells : List Identity) → m < length heap.records → records ≡ get_or heap.records m records
    → before ≡ flat_map (λ m. lost_among marks m (made_by heap m)) (range_with_len 0 m) → cells ≡ before ++ lost_among marks m records
    → cells ≡ flat_map (λ m. lost_among marks m (made_by heap m)) (range_with_len 0 (m + 1))
mutators_more marks heap m records before cells within is so_far added =
    let of = λ (n : ℕ). lost_among marks n (made_by heap n) in
    let its : records ≡ made_by heap m = get_or_read heap.records m records within is [] in
    let last : 0 + m ≡ m = omega arith in
    added
    ∙ (λ t. so_far t ++ lost_among marks m (its t))
    ∙ ap (λ (l : List Identity). flat_map of (range_with_len 0 m) ++ l) (sym (append-nil (of m)))
    ∙ sym (flat_map-append of (range_with_len 0 m) (m ∷ []))
    ∙ ap (λ (n : ℕ). flat_map of (range_with_len 0 m ++ n ∷ [])) (sym last)
    ∙ sym (ap (flat_map of) (range_more 0 m))
