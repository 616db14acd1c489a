-- Records by mutator and serial.
use Rattle.std.proofs.Common.{◌≡◌, ◌≢◌, ◌⊎◌, ⊎_elim, inl, inr, ℕ, ◌<◌, ◌≤◌, ◌==◌, true, false, List, [], ◌∷◌, length, slice_index_or, refl, sym, ap, ◌∙◌, subst, arith, zero, suc, Ordering}
use Rattle.std.specs.Cmp.{IsTotalOrder}
use Rattle.std.specs.List.Sorted.{IsPermutation, IsSortedBy}
use Rattle.std.specs.Ordering.{is_lt, nat_cmp, on, ordering_then, then_cmp}
use Rattle.std.proofs.lemmas.Bool.{cases_order, eq-eqb, le-ltb, lt-ltb}
use Rattle.std.proofs.lemmas.Cmp.{nat_cmp_total, on_total, then_total}
use Rattle.std.proofs.lemmas.List.Sorted.{All-permutation, Contains-permutation, IsPermutation-sym, ranks_by, sorted_far, sum_by-IsPermutation}
use Rattle.std.proofs.lemmas.List.Sums.{sum_by-cons}
use Rattle.plain_state.specs.declared.value.Identity.{Identity}
use Rattle.plain_heap.specs.Checkpoints.Checkpoint.{IsListedBefore}
use Rattle.checkpoint_text.specs.declared.saved_record.SavedRecord.{SavedRecord}
use Rattle.checkpoint_text.specs.Reached.{AreReached, AreListed, Reaches, times_listed, is_before}
use Rattle.checkpoint_text.proofs.Finds.{as_count}

-- the records that are reached are so in another order too
pub reached_moved : (heap : ℕ → ℕ) (board : ℕ) (xs ys : List SavedRecord) → IsPermutation xs ys → AreReached heap board xs → AreReached heap board ys
reached_moved heap board xs ys moved are = record {
  reached = All-permutation (Reaches heap board) xs ys moved are.reached;
  once = λ a. subst (λ (n : ℕ). n ≤ 1) (sym (sum_by-IsPermutation (λ (r : SavedRecord). as_count (r.address == a)) xs ys moved)) (are.once a);
  from_board = λ r on_board. Contains-permutation xs ys r moved (are.from_board r on_board);
  from_fields = λ from r has field. Contains-permutation xs ys r moved (are.from_fields from r (Contains-permutation ys xs from (IsPermutation-sym xs ys moved) has) field);
}

-- ---- the order

abbrev pub key_of : SavedRecord → ℕ × ℕ
key_of r = (r.identity.mutator, r.identity.serial)

abbrev by_pair : ℕ × ℕ → ℕ × ℕ → Ordering
by_pair = then_cmp (on (λ (p : ℕ × ℕ). p.0) nat_cmp) (on (λ (p : ℕ × ℕ). p.1) nat_cmp)

by_pair_total : IsTotalOrder by_pair
by_pair_total = then_total (on_total (λ (p : ℕ × ℕ). p.0) nat_cmp_total) (on_total (λ (p : ℕ × ℕ). p.1) nat_cmp_total)

-- a record that is sorted before another isn't behind it
not_behind : (xs : List SavedRecord) → IsSortedBy is_before xs → (i j : ℕ) (d : SavedRecord) → i ≤ j → j < length xs → is_before (slice_index_or xs j d) (slice_index_or xs i d) ≡ false
not_behind xs sorted = sorted_far is_before (ranks_by by_pair_total key_of) xs sorted

-- what the order says of two records, by how their mutators and their serials compare
tied : (r s : SavedRecord) → r.identity.mutator ≡ s.identity.mutator → is_before r s ≡ is_lt (nat_cmp r.identity.serial s.identity.serial)
tied r s e = let m = r.identity.mutator in rw (← e, le-ltb m m (omega arith), eq-eqb m m refl) refl

is_lt-less : (m n : ℕ) (rest : Ordering) → m < n → is_lt (ordering_then (nat_cmp m n) rest) ≡ true
is_lt-less m n rest low = rw (lt-ltb m n low) refl

same_identity : (i j : Identity) → i.mutator ≡ j.mutator → i.serial ≡ j.serial → i ≡ j
same_identity i j m s = λ k. record { mutator = m k; serial = s k }

-- of two records that are not one, the one that isn't behind the other is listed before it
before_listed : (r s : SavedRecord) → is_before s r ≡ false → r.identity ≢ s.identity → IsListedBefore r.identity s.identity
before_listed r s behind apart = ⊎_elim
    (λ (e : r.identity.mutator ≡ s.identity.mutator). ⊎_elim
    (λ (f : r.identity.serial ≡ s.identity.serial). absurd (apart (same_identity r.identity s.identity e f)))
    (λ (other : (r.identity.serial < s.identity.serial) ⊎ (s.identity.serial < r.identity.serial)). ⊎_elim
    (λ (low : r.identity.serial < s.identity.serial). inr (e, low))
    (λ (high : s.identity.serial < r.identity.serial).
    absurd (let differ : true ≡ false = sym (rw (lt-ltb s.identity.serial r.identity.serial high) refl) ∙ sym (tied s r (sym e)) ∙ behind in cc))
    other)
    (cases_order r.identity.serial s.identity.serial))
    (λ (other : (r.identity.mutator < s.identity.mutator) ⊎ (s.identity.mutator < r.identity.mutator)). ⊎_elim
    (λ (low : r.identity.mutator < s.identity.mutator). inl low)
    (λ (high : s.identity.mutator < r.identity.mutator).
    absurd (let differ : true ≡ false = sym (is_lt-less s.identity.mutator r.identity.mutator (nat_cmp s.identity.serial r.identity.serial) high) ∙ behind in cc))
    other)
    (cases_order r.identity.mutator s.identity.mutator)

-- ---- each once

some_counted : (a : ℕ) (xs : List SavedRecord) (j : ℕ) (d : SavedRecord) → j < length xs → (slice_index_or xs j d).address ≡ a → 1 ≤ times_listed a xs
some_counted a [] j d within is = absurd (omega (arith, within))
some_counted a (x ∷ xs) zero d within is = let front = sum_by-cons (λ (r : SavedRecord). as_count (r.address == a)) x xs in let here : as_count (x.address == a) ≡ 1 = ap as_count (eq-eqb x.address a is) in omega (arith, front, here)
some_counted a (x ∷ xs) (suc j) d within is = let front = sum_by-cons (λ (r : SavedRecord). as_count (r.address == a)) x xs in omega (arith, front, some_counted a xs j d (omega (arith, within)) is)

twice_counted : (a : ℕ) (xs : List SavedRecord) (i j : ℕ) (d : SavedRecord) → i < j → j < length xs → (slice_index_or xs i d).address ≡ a → (slice_index_or xs j d).address ≡ a → 2 ≤ times_listed a xs
twice_counted a [] i j d later within first second = absurd (omega (arith, within))
twice_counted a (x ∷ xs) i zero d later within first second = absurd (omega (arith, later))
twice_counted a (x ∷ xs) zero (suc j) d later within first second =
    let front = sum_by-cons (λ (r : SavedRecord). as_count (r.address == a)) x xs in
    let here : as_count (x.address == a) ≡ 1 = ap as_count (eq-eqb x.address a first) in
    omega (arith, front, here, some_counted a xs j d (omega (arith, within)) second)
twice_counted a (x ∷ xs) (suc i) (suc j) d later within first second =
    let front = sum_by-cons (λ (r : SavedRecord). as_count (r.address == a)) x xs in
    omega (arith, front, twice_counted a xs i j d (omega (arith, later)) (omega (arith, within)) first second)

-- two places of the list have two addresses
pub addresses_apart : (heap : ℕ → ℕ) (board : ℕ) (xs : List SavedRecord) → AreReached heap board xs → (i j : ℕ) (d : SavedRecord) → i < j → j < length xs → (slice_index_or xs i d).address ≡ (slice_index_or xs j d).address → ⊥
addresses_apart heap board xs are i j d later within e =
    let a = (slice_index_or xs j d).address in
    omega (arith, are.once a, twice_counted a xs i j d later within e refl)

-- of two records of the list that are not one the earlier is listed before the later
pub rises : (heap : ℕ → ℕ) (board : ℕ) (xs : List SavedRecord) → AreListed heap board xs → (i j : ℕ) (d : SavedRecord) → i < j → j < length xs → (slice_index_or xs i d).identity ≢ (slice_index_or xs j d).identity
    → IsListedBefore (slice_index_or xs i d).identity (slice_index_or xs j d).identity
rises heap board xs are i j d later within apart = before_listed (slice_index_or xs i d) (slice_index_or xs j d) (not_behind xs are.sorted i j d (omega (arith, later)) within) apart
