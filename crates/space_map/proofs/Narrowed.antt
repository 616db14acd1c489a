-- What is known of a number that was narrowed, or was too big for that.
use Rattle.std.proofs.Common.{◌≡◌, ℕ, Some, None, Result, Ok, Err, ◌<◌, ◌≤◌, ◌∙◌, arith}
use Rattle.std.specs.Result.{OkIff, result_ok}

pub too_big : {E : Type 0} (r : Result ℕ E) (n bound : ℕ) → OkIff r (n < bound) n → None ≡ result_ok r → bound ≤ n
too_big (Ok m) n bound narrowed none = cc
too_big (Err e) n bound narrowed none = omega arith

-- the number fits, and is kept
pub record IsNarrowed (n bound m : ℕ) : Type 0 where
  pub below : n < bound
  pub same : m ≡ n

pub kept : {E : Type 0} (r : Result ℕ E) (n bound m : ℕ) → OkIff r (n < bound) n → Some m ≡ result_ok r → IsNarrowed n bound m
kept (Ok x) n bound m narrowed some =
    let is : m ≡ x = cc in record { below = narrowed.0; same = is ∙ narrowed.1 }
kept (Err e) n bound m narrowed some = cc
