-- Facts of each element of a list and its number.
use Rattle.std.proofs.Common.{ℕ, ◌+◌, List, [], ◌∷◌, ◌++◌, length, subst, arith}
use Rattle.ael_threads.specs.Runs.Running.{EachFrom}

module _ {A : Type 0} (P : ℕ → A → Type 0) where
  pub from_last : (n : ℕ) (xs : List A) (x : A) → EachFrom P n (xs ++ x ∷ []) → EachFrom P n xs × P (n + length xs) x
  from_last n [] x h = (tt, subst (λ (m : ℕ). P m x) (omega arith) h.0)
  from_last n (y ∷ ys) x h = let both = from_last (n + 1) ys x h.1 in ((h.0, both.0), subst (λ (m : ℕ). P m x) (omega arith) both.1)
