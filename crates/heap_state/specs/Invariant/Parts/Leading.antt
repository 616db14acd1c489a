-- Where words lead.
use Rattle.std.specs.Prelude.{◌≡◌, ℕ, ◌+◌, ◌<◌, ◌≤◌}
use Rattle.plain_state.specs.declared.kind.Kind.{Kind}
use Rattle.heap_words.specs.Decoded.{PointerWord, decode}
use Rattle.space_map.specs.declared.page_word.PageWord.{PageWord}
use Rattle.space_map.specs.declared.page_word.PageWord.TheVariants.{Open}
use Rattle.heap_state.specs.Memory.Era.{Era}
use Rattle.heap_state.specs.Invariant.Ghost.{IsField, Leads, Lands, Here}
use Rattle.space_map.specs.Spaces.{page_of}

-- on an open page no field and no board word leads into the old space
pub record Opened (E : Era) (size writer : ℕ → ℕ) (kind : ℕ → Kind) (heap : ℕ → ℕ) (page : ℕ → PageWord) : Type 0 where
  pub opened : (x : ℕ) → Here E size writer kind x → page (page_of x) ≡ Open E.epoch → ¬ (Leads E (heap x))

-- a field or a board word leads to a record that nobody writes any more
pub record Landing (E : Era) (size writer : ℕ → ℕ) (kind : ℕ → Kind) (heap : ℕ → ℕ) : Type 0 where
  pub lands : (x : ℕ) → Here E size writer kind x → Lands size writer (heap x)

-- the fields of the old space lead to records of the old space, and nobody writes a record there
pub record Older (E : Era) (size writer : ℕ → ℕ) (kind : ℕ → Kind) (heap : ℕ → ℕ) : Type 0 where
  pub older : (a i b : ℕ) → IsField size writer kind a i → E.old_start ≤ a → a < E.old_start + E.old_span → decode (heap (a + i)) ≡ PointerWord b
      → (0 < size b) × (E.old_start ≤ b) × (b < E.old_start + E.old_span)
  pub written : (a : ℕ) → 0 < size a → E.old_start ≤ a → a < E.old_start + E.old_span → writer a ≡ 0
