-- The first line of a text.
use Rattle.std.specs.Prelude.{◌≡◌, ◌⊎◌, ℕ, false, List, [], ◌∷◌, ◌++◌}
use Rattle.std.specs.List.{AllByRecursion}
use Rattle.concordance_text.specs.Words.{ends_line}

-- a text is a line, its end, and what is behind; or a line alone
pub record BeginsWithLine (text line behind : List ℕ) : Type 0 where
  pub one : AllByRecursion (λ byte. ends_line byte ≡ false) line
  pub whole : (text ≡ line ++ 10 ∷ behind) ⊎ ((text ≡ line) × (behind ≡ []))
