-- How many pages of a space are in use after a flip.
use Rattle.std.specs.Prelude.{◌≡◌, ◌⊎◌, ℕ, ◌*◌, min}

-- a space that is flipped into has as many pages in use as the one before, or twice as many, as far as there are so many
abbrev pub Grows : (n size next : ℕ) → Type 0
Grows n size next = (next ≡ size) ⊎ (next ≡ min n (2 * size))
