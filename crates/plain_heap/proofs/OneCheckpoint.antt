-- What is kept has one checkpoint, and it is that of each picture with the same reached records.
use Rattle.std.proofs.Common.{◌≡◌, ℕ, zero, suc, ◌⊎◌, inl, inr, ⊎_elim, List, [], ◌∷◌, ◌++◌, map, Some, slice_get, slice_index_or, refl, ap, sym, ◌∙◌, subst, arith}
use Rattle.std.specs.List.{All, AllPairs, Contains}
use Rattle.std.proofs.lemmas.Option.{same_Some}
use Rattle.plain_state.specs.declared.value.Identity.{Identity}
use Rattle.plain_state.specs.State.{Snapped}
use Rattle.plain_heap.specs.Checkpoints.Checkpoint.{ReachedFrom, BoardRefers, FieldRefers, IsListedBefore, KeptRecord, identities_of, Checkpoint, IsCheckpoint, AgreeOnReached, OneCheckpoint, OneText, SameIsReached, SameIsPrinted, kept_record, checkpoint_lines, checkpoint_text, number_line}

-- ---- lists in which each element stands before the later ones

module _ {X : Type 0} (R : X → X → Type 0) where
  pairs-tail : (x : X) (xs : List X) → AllPairs R (x ∷ xs) → AllPairs R xs
  pairs-tail x xs rising i j d l within = rising (suc i) (suc j) d (omega (arith, l)) (omega (arith, within))

  first-before : (x y : X) (xs : List X) → AllPairs R (x ∷ xs) → Contains xs y → R x y
  first-before x y xs rising has =
      let within = has.1 in
      subst (λ z. R x z) has.2 (rising 0 (suc has.0) y (omega arith) (omega (arith, within)))

  first-or-later : (x y : X) (xs : List X) → Contains (x ∷ xs) y → (x ≡ y) ⊎ Contains xs y
  first-or-later x y xs (zero, within, is) = inl is
  first-or-later x y xs (suc k, within, is) = inr (k, omega (arith, within), is)

  is-first : (x : X) (xs : List X) → Contains (x ∷ xs) x
  is-first x xs = (0, omega arith, refl)

  is-later : (x y : X) (xs : List X) → Contains xs y → Contains (x ∷ xs) y
  is-later x y xs has = let within = has.1 in (suc has.0, omega (arith, within), has.2)

  contains-none : (x : X) → Contains [] x → ⊥
  contains-none x has = let within = has.1 in omega (arith, within)

  module _ (never_both : (x y : X) → R x y → R y x → ⊥) where
    same-first : (x y : X) (xs ys : List X) → AllPairs R (x ∷ xs) → AllPairs R (y ∷ ys) → Contains (y ∷ ys) x → Contains (x ∷ xs) y → x ≡ y
    same-first x y xs ys rising other_rising x_there y_here = ⊎_elim
        (λ (e : x ≡ y). e)
        (λ (later : Contains xs y). ⊎_elim
        (λ (e : y ≡ x). sym e)
        (λ (there : Contains ys x). absurd (never_both x y (first-before x y xs rising later) (first-before y x ys other_rising there)))
        (first-or-later y x ys x_there))
        (first-or-later x y xs y_here)

    -- what is later in one list and stands in the other is later there too
    still-later : (x y z : X) (xs ys : List X) → AllPairs R (x ∷ xs) → x ≡ y → Contains xs z → Contains (y ∷ ys) z → Contains ys z
    still-later x y z xs ys rising e later there = ⊎_elim
        (λ (is : y ≡ z).
        let before : R x x = subst (λ w. R x w) (sym (e ∙ is)) (first-before x z xs rising later) in
        absurd (never_both x x before before))
        (λ (has : Contains ys z). has)
        (first-or-later y z ys there)

    pub rising-same : (xs ys : List X) → AllPairs R xs → AllPairs R ys → ((z : X) → Contains xs z → Contains ys z) → ((z : X) → Contains ys z → Contains xs z) → xs ≡ ys
    rising-same [] [] rising other_rising there back = refl
    rising-same [] (y ∷ ys) rising other_rising there back = absurd (contains-none y (back y (is-first y ys)))
    rising-same (x ∷ xs) [] rising other_rising there back = absurd (contains-none x (there x (is-first x xs)))
    rising-same (x ∷ xs) (y ∷ ys) rising other_rising there back =
        let e : x ≡ y = same-first x y xs ys rising other_rising (there x (is-first x xs)) (back y (is-first y ys)) in
        let tails : xs ≡ ys = rising-same xs ys (pairs-tail x xs rising) (pairs-tail y ys other_rising)
        (λ z has. still-later x y z xs ys rising e has (there z (is-later x z xs has)))
        (λ z has. still-later y x z ys xs other_rising (sym e) has (back z (is-later y z ys has))) in
        (λ i. e i ∷ tails i)

never-both : (i j : Identity) → IsListedBefore i j → IsListedBefore j i → ⊥
never-both i j (inl l) (inl m) = omega (arith, l, m)
never-both i j (inl l) (inr m) = let e = m.0 in omega (arith, l, e)
never-both i j (inr l) (inl m) = let e = l.0 in omega (arith, m, e)
never-both i j (inr l) (inr m) = let a = l.1 in let b = m.1 in omega (arith, a, b)

-- ---- one checkpoint

module _ (kept : Snapped) where
  abbrev AsKept : List KeptRecord → Type 0
  AsKept records = All (λ r. kept_record kept r.identity ≡ Some r.content) records

  same-content : (a b : KeptRecord) → a.identity ≡ b.identity → kept_record kept a.identity ≡ Some a.content → kept_record kept b.identity ≡ Some b.content → a ≡ b
  same-content a b e a_is b_is =
      let f : a.content ≡ b.content = same_Some a.content b.content (sym a_is ∙ ap (kept_record kept) e ∙ b_is) in
      (λ i. record { identity = e i; content = f i })

  same-records : (xs ys : List KeptRecord) → identities_of xs ≡ identities_of ys → AsKept xs → AsKept ys → xs ≡ ys
  same-records [] [] e kept_so others_kept = refl
  same-records [] (y ∷ ys) e kept_so others_kept = cc
  same-records (x ∷ xs) [] e kept_so others_kept = cc
  same-records (x ∷ xs) (y ∷ ys) e kept_so others_kept =
      let first : x.identity ≡ y.identity = cc in
      let rest : identities_of xs ≡ identities_of ys = cc in
      let one : x ≡ y = same-content x y first (kept_so 0 x (omega arith)) (others_kept 0 y (omega arith)) in
      let later : xs ≡ ys = same-records xs ys rest
      (λ k d l. kept_so (suc k) d (omega (arith, l)))
      (λ k d l. others_kept (suc k) d (omega (arith, l))) in
      (λ i. one i ∷ later i)

  reached-has : (c : Checkpoint) → IsCheckpoint kept c → (i : Identity) → Contains (identities_of c.records) i → ReachedFrom kept i
  reached-has c is i has = subst (ReachedFrom kept) has.2 (is.reached has.0 i has.1)

  pub one-checkpoint : (a b : Checkpoint) → IsCheckpoint kept a → IsCheckpoint kept b → a ≡ b
  one-checkpoint a b is other_is =
      let identities = rising-same IsListedBefore never-both (identities_of a.records) (identities_of b.records) is.rising other_is.rising
      (λ i has. other_is.complete i (reached-has a is i has))
      (λ i has. is.complete i (reached-has b other_is i has)) in
      let board : a.board ≡ b.board = is.board ∙ sym other_is.board in
      let records : a.records ≡ b.records = same-records a.records b.records identities is.as_kept other_is.as_kept in
      (λ i. record { board = board i; records = records i })

pub one_checkpoint : OneCheckpoint
one_checkpoint = one-checkpoint

-- and one text
pub one_text : OneText
one_text zero kept a b is other_is = is ∙ sym other_is
one_text (suc n) kept a b is other_is =
    is.2 ∙ ap (λ c. number_line (suc n) ++ checkpoint_text c) (one-checkpoint kept is.0 other_is.0 is.1 other_is.1) ∙ sym other_is.2

-- ---- what isn't reached

each-mapped : {X Y : Type 0} (P : Y → Type 0) (f : X → Y) (xs : List X) → All P (map f xs) → All (λ x. P (f x)) xs
each-mapped P f [] each k d l = absurd (omega (arith, l))
each-mapped P f (x ∷ xs) each zero d l = each 0 (f x) (omega arith)
each-mapped P f (x ∷ xs) each (suc k) d l = each-mapped P f xs (λ k d l. each (suc k) d (omega (arith, l))) k d (omega (arith, l))

module _ (kept other : Snapped) (same : AgreeOnReached kept other) where
  there : (i : Identity) → ReachedFrom kept i → ReachedFrom other i
  there _ (BoardRefers x i is) = BoardRefers x i (ap (λ vs. slice_get vs x) same.board ∙ is)
  there _ (FieldRefers i r x j reached has field is) = FieldRefers i r x j (there i reached) (same.records i reached ∙ has) field is

  back : (i : Identity) → ReachedFrom other i → ReachedFrom kept i
  back _ (BoardRefers x i is) = BoardRefers x i (ap (λ vs. slice_get vs x) (sym same.board) ∙ is)
  back _ (FieldRefers i r x j reached has field is) =
      let before = back i reached in
      FieldRefers i r x j before (sym (same.records i before) ∙ has) field is

  is_checkpoint-there : (c : Checkpoint) → IsCheckpoint kept c → IsCheckpoint other c
  is_checkpoint-there c is = record {
    board = is.board ∙ sym same.board;
    rising = is.rising;
    reached = λ k d l. there (slice_index_or (identities_of c.records) k d) (is.reached k d l);
    complete = λ i reached. is.complete i (back i reached);
    as_kept = λ k d l.
        let r = slice_index_or c.records k d in
        same.records r.identity (each-mapped (ReachedFrom kept) (λ r. r.identity) c.records is.reached k d l) ∙ is.as_kept k d l;
  }

  turned : AgreeOnReached other kept
  turned = record { board = sym same.board; records = λ i reached. sym (same.records i (back i reached)) }

pub same_is_reached : SameIsReached
same_is_reached kept other i same = (there kept other same i, back kept other same i)

pub lines-there : (number : ℕ) (kept other : Snapped) (bytes : List ℕ) → AgreeOnReached kept other → checkpoint_lines number kept bytes → checkpoint_lines number other bytes
lines-there zero kept other bytes same is = is
lines-there (suc n) kept other bytes same is = (is.0, is_checkpoint-there kept other same is.0 is.1, is.2)

pub same_is_printed : SameIsPrinted
same_is_printed number kept other bytes same =
    (lines-there number kept other bytes same, lines-there number other kept bytes (turned kept other same))
