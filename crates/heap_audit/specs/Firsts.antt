-- The first number at which something isn't so.
use Rattle.std.specs.Prelude.{ℕ, ◌<◌, Option, Some, None, if◌then◌else◌, nat_lt}

-- no number is told if it is so at each, else the first at which it isn't
abbrev pub TellsFirst : (ℕ → Type 0) → Option ℕ → Type 0
TellsFirst IsSo None = (a : ℕ) → IsSo a
TellsFirst IsSo (Some b) = (IsSo b → ⊥) × ((a : ℕ) → a < b → IsSo a)

-- the least of two numbers, where there are any
abbrev pub least : Option ℕ → Option ℕ → Option ℕ
least None other = other
least (Some a) None = Some a
least (Some a) (Some b) = if nat_lt b a then Some b else Some a
