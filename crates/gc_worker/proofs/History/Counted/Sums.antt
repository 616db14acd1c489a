-- Sums of which terms are at most, or a multiple of, those of others, or 0 past an end.
use Rattle.std.proofs.Common.{◌≡◌, ℕ, zero, suc, ◌*◌, ◌<◌, ◌≤◌, refl, arith, ⊎_elim}
use Rattle.std.proofs.lemmas.Bool.{cases_lt}
use Rattle.plain_state.specs.declared.sizes.TheConstants.{PAGE_WORDS}
use Rattle.heap_state.specs.Functions.{sum_below}

pub sum_below-most : (n : ℕ) (f g : ℕ → ℕ) → ((k : ℕ) → k < n → f k ≤ g k) → sum_below n f ≤ sum_below n g
unfolding sum_below
sum_below-most zero f g most = omega arith
sum_below-most (suc n) f g most =
    let rest = sum_below-most n f g (λ k below. most k (omega (arith, below))) in
    let here = most n (omega arith) in
    omega (arith, rest, here)

-- terms past an end that are 0
pub sum_below-past : (n m : ℕ) (f : ℕ → ℕ) → m ≤ n → ((k : ℕ) → m ≤ k → k < n → f k ≡ 0) → sum_below n f ≡ sum_below m f
unfolding sum_below
sum_below-past zero m f within none = let e : m ≡ 0 = omega (arith, within) in rw e refl
sum_below-past (suc n) m f within none = ⊎_elim
    (λ (last : n < m). let e : m ≡ suc n = omega (arith, last, within) in rw e refl)
    (λ (past : m ≤ n).
    let rest = sum_below-past n m f past (λ k from below. none k from (omega (arith, below))) in
    let here = none n past (omega arith) in
    omega (arith, rest, here))
    (cases_lt n m)

pub sum_below-times : (n : ℕ) (f : ℕ → ℕ) → sum_below n (λ k. PAGE_WORDS * f k) ≡ PAGE_WORDS * sum_below n f
unfolding sum_below
sum_below-times zero f = omega arith
sum_below-times (suc n) f = let rest = sum_below-times n f in omega (arith, rest)
