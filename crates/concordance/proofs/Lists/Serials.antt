-- Records by their serials.
use Rattle.std.proofs.Common.{◌≡◌, ◌≢◌, ℕ, zero, suc, ◌+◌, ◌-◌, List, [], ◌∷◌, ◌++◌, length, Some, None, slice_get, slice_set, refl, sym, ap, ◌∙◌, arith}
use Rattle.std.specs.List.{sum_by}
use Rattle.std.proofs.lemmas.List.Sums.{sum_by-cons}
use Rattle.plain_state.specs.Layout.{size_of}
use Rattle.plain_state.specs.State.{Record, at_serial}
use Rattle.plain_state.proofs.Elements.{at_serial_within, at_serial-set_same, at_serial-set_other}

-- ---- more records behind them

get_front : (xs ys : List Record) (i : ℕ) (r : Record) → slice_get xs i ≡ Some r → slice_get (xs ++ ys) i ≡ Some r
get_front [] ys zero r is = absurd (let h : None ≡ Some r = is in cc)
get_front [] ys (suc i) r is = absurd (let h : None ≡ Some r = is in cc)
get_front (x ∷ xs) ys zero r is = is
get_front (x ∷ xs) ys (suc i) r is = get_front xs ys i r is

pub at_front : (xs ys : List Record) (serial : ℕ) (r : Record) → at_serial xs serial ≡ Some r → at_serial (xs ++ ys) serial ≡ Some r
at_front xs ys zero r is = absurd (let h : None ≡ Some r = is in cc)
at_front xs ys (suc i) r is = get_front xs ys i r is

get_behind : (xs ys : List Record) (i : ℕ) → slice_get (xs ++ ys) (length xs + i) ≡ slice_get ys i
get_behind [] ys i = let e : 0 + i ≡ i = omega arith in ap (slice_get ys) e
get_behind (x ∷ xs) ys i = let e : length (x ∷ xs) + i ≡ suc (length xs + i) = omega arith in ap (slice_get (x ∷ (xs ++ ys))) e ∙ get_behind xs ys i

pub at_behind : (xs ys : List Record) (i : ℕ) → at_serial (xs ++ ys) (length xs + (i + 1)) ≡ slice_get ys i
at_behind xs ys i = let e : length xs + (i + 1) ≡ suc (length xs + i) = omega arith in ap (at_serial (xs ++ ys)) e ∙ get_behind xs ys i

-- ---- one record in the place of another

pub at_stored : (records : List Record) (serial : ℕ) (r new : Record) → at_serial records serial ≡ Some r → at_serial (slice_set records (serial - 1) new) serial ≡ Some new
at_stored records serial r new is = let w = at_serial_within records serial r is in at_serial-set_same records serial new w.0 w.1

pub at_others : (records : List Record) (serial : ℕ) (r new : Record) → at_serial records serial ≡ Some r → (s : ℕ) → s ≢ serial → at_serial (slice_set records (serial - 1) new) s ≡ at_serial records s
at_others records serial r new is s other = at_serial-set_other records serial s new other (at_serial_within records serial r is).0

-- ---- how many heap words they fill

set_sizes : (xs : List Record) (i : ℕ) (r new : Record) → slice_get xs i ≡ Some r → size_of new ≡ size_of r → sum_by size_of (slice_set xs i new) ≡ sum_by size_of xs
set_sizes [] i r new is same = refl
set_sizes (x ∷ xs) zero r new is same =
    let e : x ≡ r = cc in
    sum_by-cons size_of new xs ∙ (ap (λ n. n + sum_by size_of xs) (same ∙ ap size_of (sym e)) ∙ sym (sum_by-cons size_of x xs))
set_sizes (x ∷ xs) (suc i) r new is same = sum_by-cons size_of x (slice_set xs i new) ∙ (ap (λ n. size_of x + n) (set_sizes xs i r new is same) ∙ sym (sum_by-cons size_of x xs))

pub stored_sizes : (xs : List Record) (serial : ℕ) (r new : Record) → at_serial xs serial ≡ Some r → size_of new ≡ size_of r → sum_by size_of (slice_set xs (serial - 1) new) ≡ sum_by size_of xs
stored_sizes xs zero r new is same = absurd (let h : None ≡ Some r = is in cc)
stored_sizes xs (suc i) r new is same = let e : suc i - 1 ≡ i = omega arith in ap (λ j. sum_by size_of (slice_set xs j new)) e ∙ set_sizes xs i r new is same
