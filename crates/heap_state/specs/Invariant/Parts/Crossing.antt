-- The crossing map.
use Rattle.std.specs.Prelude.{◌≡◌, ℕ, ◌+◌, ◌<◌, ◌≤◌}
use Rattle.heap_state.specs.Memory.Era.{Era}
use Rattle.space_map.specs.Spaces.{first_word}

-- A page of the epoch's space whose first word is below FRONT has the place of the record over that word as its crossing,
-- where nobody writes that record any more.
pub record Crossing (E : Era) (front : ℕ) (size writer cross : ℕ → ℕ) : Type 0 where
  pub crossing : (p a : ℕ) → E.start ≤ first_word p → first_word p < front → 0 < size a → a ≤ first_word p → first_word p < a + size a → writer a ≡ 0 → cross p ≡ a
