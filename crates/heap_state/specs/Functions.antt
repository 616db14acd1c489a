-- Functions of a number: one changed at one place, and the sum of one over the numbers below an end.
use Rattle.std.specs.Prelude.{ℕ, ◌+◌, ◌==◌, Bool, true, false, if◌then◌else◌}
use Rattle.std.proofs.Common.{zero, suc}

-- the function that is x at this place, and f elsewhere
unfoldable pub put : {X : Type 0} → (ℕ → X) → ℕ → X → ℕ → X
put f place x a = if a == place then x else f a

-- the sum of f over the numbers below n
unfoldable pub sum_below : ℕ → (ℕ → ℕ) → ℕ
sum_below zero f = 0
sum_below (suc n) f = f n + sum_below n f

-- what one that is counted adds to a count
abbrev pub count_one : Bool → ℕ
count_one true = 1
count_one false = 0
