-- Elements of a list after a write, after an element is added, and of a list of one value; and the same by serials.
use Rattle.std.proofs.Common.{◌≡◌, ◌≢◌, ℕ, zero, suc, ◌+◌, ◌-◌, ◌<◌, List, [], ◌∷◌, ◌++◌, length, replicate, Some, slice_get, slice_set, refl, ap, sym, ◌∙◌, arith}
use Rattle.std.proofs.lemmas.Option.{same_Some, slice_get_within}
use Rattle.plain_state.specs.State.{Record, at_serial}

pub slice_get-set_same : {A : Type 0} (xs : List A) (i : ℕ) (y : A) → i < length xs → slice_get (slice_set xs i y) i ≡ Some y
slice_get-set_same [] i y within = absurd (omega arith)
slice_get-set_same (x ∷ xs) zero y within = refl
slice_get-set_same (x ∷ xs) (suc i) y within = slice_get-set_same xs i y (omega arith)

pub slice_get-set_other : {A : Type 0} (xs : List A) (i j : ℕ) (y : A) → j ≢ i → slice_get (slice_set xs i y) j ≡ slice_get xs j
slice_get-set_other [] i j y other = refl
slice_get-set_other (x ∷ xs) zero zero y other = absurd (other refl)
slice_get-set_other (x ∷ xs) zero (suc j) y other = refl
slice_get-set_other (x ∷ xs) (suc i) zero y other = refl
slice_get-set_other (x ∷ xs) (suc i) (suc j) y other = slice_get-set_other xs i j y (λ e. other (ap suc e))

-- the element after a front is the first after it
pub slice_get-append_end : {A : Type 0} (xs : List A) (y : A) → slice_get (xs ++ y ∷ []) (length xs) ≡ Some y
slice_get-append_end [] y = refl
slice_get-append_end (x ∷ xs) y = slice_get-append_end xs y

pub slice_get-append_front : {A : Type 0} (xs : List A) (i : ℕ) (y : A) → i < length xs → slice_get (xs ++ y ∷ []) i ≡ slice_get xs i
slice_get-append_front [] i y within = absurd (omega arith)
slice_get-append_front (x ∷ xs) zero y within = refl
slice_get-append_front (x ∷ xs) (suc i) y within = slice_get-append_front xs i y (omega arith)

-- what stands in a list of one value is that value
pub slice_get-replicate : {A : Type 0} (n i : ℕ) (x y : A) → slice_get (replicate n x) i ≡ Some y → y ≡ x
slice_get-replicate zero i x y is = cc
slice_get-replicate (suc n) zero x y is = sym (same_Some x y is)
slice_get-replicate (suc n) (suc i) x y is = slice_get-replicate n i x y is

pub slice_get-of_replicate : {A : Type 0} (n i : ℕ) (x : A) → i < n → slice_get (replicate n x) i ≡ Some x
slice_get-of_replicate zero i x l = absurd (omega arith)
slice_get-of_replicate (suc n) zero x l = refl
slice_get-of_replicate (suc n) (suc i) x l = slice_get-of_replicate n i x (omega arith)

-- what is found where an element was written is that element
pub set-found : {A : Type 0} (xs : List A) (i j : ℕ) (y z : A) → j ≡ i → i < length xs → slice_get (slice_set xs i y) j ≡ Some z → y ≡ z
set-found xs i j y z e within is =
    same_Some y z (sym (slice_get-set_same xs i y within) ∙ ap (λ n. slice_get (slice_set xs i y) n) (sym e) ∙ is)

-- ---- a list by serials

-- a serial that has an element is at least 1, and its place is within the list
pub at_serial_within : (xs : List Record) (n : ℕ) (r : Record) → at_serial xs n ≡ Some r → (0 < n) × (n - 1 < length xs)
at_serial_within xs zero r is = cc
at_serial_within xs (suc n) r is = let l = slice_get_within xs n r is in (omega arith, omega arith)

pub at_serial-set_same : (xs : List Record) (n : ℕ) (y : Record) → 0 < n → n - 1 < length xs → at_serial (slice_set xs (n - 1) y) n ≡ Some y
at_serial-set_same xs zero y some within = absurd (omega arith)
at_serial-set_same xs (suc n) y some within = let e : suc n - 1 ≡ n = omega arith in rw e (slice_get-set_same xs n y (omega arith))

pub at_serial-set_other : (xs : List Record) (i n : ℕ) (y : Record) → n ≢ i → 0 < i → at_serial (slice_set xs (i - 1) y) n ≡ at_serial xs n
at_serial-set_other xs i zero y other some = refl
at_serial-set_other xs i (suc n) y other some = slice_get-set_other xs (i - 1) n y (λ e. other (omega arith))

pub at_serial-append_end : (xs : List Record) (n : ℕ) (y : Record) → n ≡ length xs + 1 → at_serial (xs ++ y ∷ []) n ≡ Some y
at_serial-append_end xs zero y last = absurd (omega arith)
at_serial-append_end xs (suc n) y last = let e : n ≡ length xs = omega arith in rw e (slice_get-append_end xs y)

pub at_serial-append_front : (xs : List Record) (n : ℕ) (y r : Record) → at_serial xs n ≡ Some r → at_serial (xs ++ y ∷ []) n ≡ Some r
at_serial-append_front xs zero y r is = cc
at_serial-append_front xs (suc n) y r is = slice_get-append_front xs n y (slice_get_within xs n r is) ∙ is
