-- The first register that doesn't show the plain one.
use Rattle.std.specs.Prelude.{ℕ, ◌+◌, ◌*◌, ◌<◌, Option, Some, None}
use Rattle.plain_state.specs.State as plain
use Rattle.heap_state.specs.Meaning.Dump.{Dump}
use Rattle.heap_state.specs.Meaning.Represents.{RegisterShows}

-- none is told if each shows it, else the first that doesn't, by mutator
abbrev pub TellsFirstRegister : Dump → plain.Plain → Option (ℕ × ℕ) → Type 0
TellsFirstRegister d p None = (m j : ℕ) → m < d.mutators → j < 8 → RegisterShows d p m j
TellsFirstRegister d p (Some first) =
    (first.0 < d.mutators) × (first.1 < 8) × (RegisterShows d p first.0 first.1 → ⊥)
    × ((m j : ℕ) → m < d.mutators → j < 8 → 8 * m + j < 8 * first.0 + first.1 → RegisterShows d p m j)
