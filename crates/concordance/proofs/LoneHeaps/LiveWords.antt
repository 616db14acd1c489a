-- If one mutator has made all records, what is live takes no more words than they do.
use Rattle.std.proofs.Common.{◌≡◌, ◌≢◌, ℕ, zero, suc, ◌+◌, ◌<◌, ◌≤◌, ◌⊎◌, inl, inr, List, [], ◌∷◌, map, length, Some, refl, ap, sym, ◌∙◌, arith, get_or, set, slice_get}
use Rattle.std.specs.Prelude.{⊤}
use Rattle.std.specs.List.{sum_by}
use Rattle.std.proofs.lemmas.Bool.{cases_lt}
use Rattle.std.proofs.lemmas.List.{get_or_past, get_or-set_other}
use Rattle.std.proofs.lemmas.List.Sums.{sum_by-cons, sum_by-set}
use Rattle.plain_state.specs.declared.value.Identity.{Identity}
use Rattle.plain_state.specs.Layout.{size_of}
use Rattle.plain_state.specs.Reachable.{sum_of_records, words_of}
use Rattle.plain_state.specs.State.{Record, Heap, at_serial, made_by}
use Rattle.ael_threads.specs.Histories.{Each}
use Rattle.ael_threads.proofs.Lists.Elements.{each_to_map}
use Rattle.concordance.specs.Full.{LiveIsMade}

-- what all of these weigh
abbrev total_weight : (ℕ → ℕ) → List ℕ → ℕ
total_weight weight [] = 0
total_weight weight (x ∷ xs) = weight x + total_weight weight xs

-- ---- serials, of which none but 0 stands twice

-- the weight at a serial, of which the first is 1
abbrev weight : List ℕ → ℕ → ℕ
weight w zero = 0
weight w (suc n) = get_or w n 0

abbrev IsOnceAtMost : List ℕ → Type 0
IsOnceAtMost [] = ⊤
IsOnceAtMost (s ∷ ss) = Each (λ y. y ≡ s → s ≡ 0) ss × IsOnceAtMost ss

abbrev sum_of : List ℕ → ℕ
sum_of w = sum_by (λ (x : ℕ). x) w

weight_other : (w : List ℕ) (n : ℕ) (s : ℕ) → s ≢ suc n → weight (set w n 0) s ≡ weight w s
weight_other w n zero other = refl
weight_other w n (suc k) other = get_or-set_other w n k 0 0 (λ e. other (ap suc e))

total_other : (w : List ℕ) (n : ℕ) (ss : List ℕ) → Each (λ y. y ≡ suc n → suc n ≡ 0) ss → total_weight (weight (set w n 0)) ss ≡ total_weight (weight w) ss
total_other w n [] others = refl
total_other w n (s ∷ ss) others =
    let one = weight_other w n s (λ e. absurd (no_suc n (others.0 e))) in
    let rest = total_other w n ss others.1 in
    omega (arith, one, rest)
  where
    no_suc : (n : ℕ) → suc n ≡ 0 → ⊥
    no_suc n e = cc

fits : (w ss : List ℕ) → IsOnceAtMost ss → total_weight (weight w) ss ≤ sum_of w
fits w [] once = omega arith
fits w (zero ∷ ss) once = let rest = fits w ss once.1 in omega (arith, rest)
fits w (suc n ∷ ss) once = by_place (fits (set w n 0) ss once.1) (fits w ss once.1) (cases_lt n (length w))
  where
    by_place : total_weight (weight (set w n 0)) ss ≤ sum_of (set w n 0) → total_weight (weight w) ss ≤ sum_of w → (n < length w) ⊎ (length w ≤ n) → get_or w n 0 + total_weight (weight w) ss ≤ sum_of w
    by_place then now (inl below) =
        let less = sum_by-set (λ (x : ℕ). x) w n 0 0 below in
        let same = total_other w n ss once.0 in
        omega (arith, less, then, same)
    by_place then now (inr past) = let none = get_or_past w n 0 past in omega (arith, none, now)

-- ---- identities

-- the serial of a record of mutator 0, and else 0
abbrev serial_if : (mutator serial : ℕ) → ℕ
serial_if zero s = s
serial_if (suc m) s = 0

abbrev place : Identity → ℕ
place i = serial_if i.mutator i.serial

words_at : (rs : List Record) (n : ℕ) → words_of (slice_get rs n) ≡ get_or (map size_of rs) n 0
words_at [] n = refl
words_at (r ∷ rs) zero = refl
words_at (r ∷ rs) (suc n) = words_at rs n

words_by : (rs : List Record) (s : ℕ) → words_of (at_serial rs s) ≡ weight (map size_of rs) s
words_by rs zero = refl
words_by rs (suc n) = words_at rs n

words_none : (s : ℕ) → words_of (at_serial [] s) ≡ 0
words_none zero = refl
words_none (suc n) = refl

module _ (heap : Heap) (one : length heap.records ≡ 1) where
  abbrev w : List ℕ
  w = map size_of (made_by heap 0)

  weighs : (m s : ℕ) → words_of (at_serial (made_by heap m) s) ≡ weight w (serial_if m s)
  weighs zero s = words_by (made_by heap 0) s
  weighs (suc m) s = ap (λ (rs : List Record). words_of (at_serial rs s)) (get_or_past heap.records (suc m) [] (omega (arith, one))) ∙ words_none s

  sums : (ids : List Identity) → sum_of_records heap ids ≡ total_weight (weight w) (map place ids)
  sums [] = refl
  sums (i ∷ is) = let e = weighs i.mutator i.serial in let rest = sums is in omega (arith, e, rest)

-- ---- no identity twice

each_by : {A : Type 0} (P : A → Type 0) (xs : List A) → ((k : ℕ) (x : A) → slice_get xs k ≡ Some x → P x) → Each P xs
each_by P [] all = tt
each_by P (x ∷ xs) all = (all 0 x refl, each_by P xs (λ k y at. all (suc k) y at))

same_place : (i j : Identity) → place j ≡ place i → (j ≡ i → ⊥) → place i ≡ 0
same_place i j e other = by_numbers i.mutator j.mutator refl refl
  where
    by_numbers : (m n : ℕ) → i.mutator ≡ m → j.mutator ≡ n → place i ≡ 0
    by_numbers zero zero a b =
        let own : place i ≡ i.serial = ap (λ (m : ℕ). serial_if m i.serial) a in
        let its : place j ≡ j.serial = ap (λ (m : ℕ). serial_if m j.serial) b in
        absurd (other (ap (λ (m : ℕ). let r : Identity = record { mutator = m; serial = j.serial } in r) (b ∙ sym a)
        ∙ ap (λ (s : ℕ). let r : Identity = record { mutator = i.mutator; serial = s } in r) (sym its ∙ (e ∙ own))))
    by_numbers (suc m) n a b = ap (λ (m : ℕ). serial_if m i.serial) a
    by_numbers zero (suc n) a b = sym e ∙ ap (λ (m : ℕ). serial_if m j.serial) b

abbrev IsApart : List Identity → Type 0
IsApart ids = (a b : ℕ) (i : Identity) → slice_get ids a ≡ Some i → slice_get ids b ≡ Some i → a ≡ b

no_zero : (k : ℕ) → 0 ≡ suc k → ⊥
no_zero k e = cc

same_suc : (a b : ℕ) → suc a ≡ suc b → a ≡ b
same_suc a b e = omega (arith, e)

once_of : (ids : List Identity) → IsApart ids → IsOnceAtMost (map place ids)
once_of [] apart = tt
once_of (i ∷ is) apart = (
  each_to_map (λ y. y ≡ place i → place i ≡ 0) place is
      (each_by (λ (j : Identity). place j ≡ place i → place i ≡ 0) is (λ k j at e. same_place i j e (λ same. no_zero k (apart 0 (suc k) i refl (at ∙ ap Some same))))),
  once_of is (λ a b j s t. same_suc a b (apart (suc a) (suc b) j s t)),
)

sum_sizes : (rs : List Record) → sum_of (map size_of rs) ≡ sum_by size_of rs
sum_sizes [] = refl
sum_sizes (r ∷ rs) = let e = sum_sizes rs in let a = sum_by-cons size_of r rs in let b = sum_by-cons (λ (x : ℕ). x) (size_of r) (map size_of rs) in omega (arith, a, b, e)

pub live_is_made : LiveIsMade
live_is_made p words one live =
    let a = sums p.heap one live.identities in
    let b = fits (map size_of (made_by p.heap 0)) (map place live.identities) (once_of live.identities live.once) in
    let c = sum_sizes (made_by p.heap 0) in
    let d = live.sum in
    omega (arith, a, b, c, d)
