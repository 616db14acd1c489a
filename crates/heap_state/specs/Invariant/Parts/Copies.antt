-- What copies stand for.
use Rattle.std.specs.Prelude.{◌≡◌, ℕ, ◌+◌, ◌<◌, ◌≤◌, ◌==◌, ◌⊎◌, if◌then◌else◌}
use Rattle.plain_state.specs.declared.kind.Kind.{Kind}
use Rattle.plain_state.specs.declared.value.Identity.{Identity}
use Rattle.heap_state.specs.Memory.Era.{Era}
use Rattle.heap_state.specs.Functions.{sum_below}

-- Only records of the old space have copies, and those are records below FRONT of the same size, kind and identity; who
-- keeps the header of one still writes the other. Where nothing stands there is no copy and no keeper. Each place that
-- is written is a copy. A record's header is kept by a worker that knows of it, and only in the old space.
pub record Copied (E : Era) (front : ℕ) (size writer copy keeper : ℕ → ℕ) (kind : ℕ → Kind) (identity : ℕ → Identity) (kept : ℕ → ℕ) : Type 0 where
  pub target : (a b : ℕ) → 0 < size a → copy a ≡ b + 1
      → (E.old_start ≤ a) × (a < E.old_start + E.old_span) × (E.start ≤ b) × (b < front) × (size b ≡ size a)
      × (identity b ≡ identity a) × (kind b ≡ kind a) × (writer b ≡ keeper a)
  pub blank : (a : ℕ) → size a ≡ 0 → (copy a ≡ 0) × (keeper a ≡ 0)
  pub origin : (b : ℕ) → 0 < size b → 0 < writer b → (a : ℕ) × (0 < size a) × (copy a ≡ b + 1)
  pub keeper_of : (a k : ℕ) → 0 < size a → keeper a ≡ k + 1 → (kept k ≡ a + 1) × (E.old_start ≤ a) × (a < E.old_start + E.old_span)

-- two places of one identity are a record and its copy
pub record Once (size copy : ℕ → ℕ) (identity : ℕ → Identity) : Type 0 where
  pub once : (a b : ℕ) → 0 < size a → 0 < size b → identity a ≡ identity b → (a ≡ b) ⊎ ((copy a ≡ b + 1) ⊎ (copy b ≡ a + 1))

-- a header is kept by a worker that there is
pub record Keepers (size keeper : ℕ → ℕ) (count : ℕ) : Type 0 where
  pub kept : (a k : ℕ) → 0 < size a → keeper a ≡ k + 1 → k < count

-- the words that the record at a still needs in the epoch's space
abbrev pub owing : (size copy : ℕ → ℕ) → ℕ → ℕ
owing size copy a = if copy a == 0 then size a else 0

-- While the epoch is not traced, what the records of the old space still need is at most owed, and there is room for it.
-- Owed is never more than a space.
pub record Room (E : Era) (traced front low owed : ℕ) (size copy : ℕ → ℕ) : Type 0 where
  pub needs : traced ≤ E.epoch → sum_below E.old_span (λ x. owing size copy (E.old_start + x)) ≤ owed
  pub fits : traced ≤ E.epoch → front + owed ≤ low
  pub small : owed ≤ E.span
