-- Where the targets of weak cells lead, by the words and by what the proofs know beside them.
use Rattle.std.specs.Prelude.{◌≡◌, ℕ, ◌+◌, ◌<◌, ◌≤◌, ◌⊎◌}
use Rattle.plain_state.specs.declared.kind.Kind.TheVariants.{Weak}
use Rattle.plain_state.specs.declared.value.Identity.{Identity}
use Rattle.heap_words.specs.Decoded.{PointerWord, decode}
use Rattle.heap_state.specs.Cells.{IsCopiedCell}
use Rattle.heap_state.specs.Memory.Era.{Era, Memory}
use Rattle.heap_state.specs.Invariant.Ghost.{Ghost, Leads, Lands}

-- a cell stands there, and nobody writes it
pub record IsCell (g : Ghost) (a : ℕ) : Type 0 where
  pub stands : 0 < g.size a
  pub written : g.writer a ≡ 0
  pub weak : g.kind a ≡ Weak

-- a copy of this identity stands, and nobody writes it any more
pub record IsCopied (E : Era) (front : ℕ) (size writer : ℕ → ℕ) (identity : ℕ → Identity) (i : Identity) : Type 0 where
  pub at : ℕ
  pub stands : (0 < size at) × (writer at ≡ 0)
  pub below : (E.start ≤ at) × (at < front)
  pub named : identity at ≡ i

-- the address is one of the old space
abbrev pub IsOld : Era → ℕ → Type 0
IsOld E b = (E.old_start ≤ b) × (b < E.old_start + E.old_span)

-- A target is the word behind a cell's header. If it is a pointer: that of a cell of the epoch's space leads to a record that nobody
-- writes. That of a copied cell leads into the old space or below FRONT, and once the epoch is traced not into the old space. That of a
-- cell from LOW up never leads there. While the epoch isn't traced, that of an old cell leads to a record of the old space.
pub record Targets (E : Era) (m : Memory) (g : Ghost) : Type 0 where
  pub lands : (a : ℕ) → IsCell g a → E.start ≤ a → a < E.start + E.span → Lands g.size g.writer (m.heap (a + 1))
  pub aims : (a b : ℕ) → IsCopiedCell E m.front g a → decode (m.heap (a + 1)) ≡ PointerWord b → IsOld E b ⊎ ((E.start ≤ b) × (b < m.front))
  pub new : (a : ℕ) → IsCell g a → m.low ≤ a → a < E.start + E.span → ¬ (Leads E (m.heap (a + 1)))
  pub clean : m.traced ≡ E.epoch + 1 → (a : ℕ) → IsCopiedCell E m.front g a → ¬ (Leads E (m.heap (a + 1)))
  pub older : m.traced ≤ E.epoch → (a b : ℕ) → IsCell g a → IsOld E a → decode (m.heap (a + 1)) ≡ PointerWord b → (0 < g.size b) × IsOld E b
