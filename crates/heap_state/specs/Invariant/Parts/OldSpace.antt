-- The old space and its area word.
use Rattle.std.specs.Prelude.{◌≡◌, ℕ, ◌+◌, ◌≤◌}
use Rattle.space_map.specs.declared.page_word.PageWord.{PageWord}
use Rattle.heap_state.specs.Memory.Era.{Era}
use Rattle.heap_state.specs.Invariant.Parts.Records.{SpaceOf}

-- while the epoch is not traced, the old space is as the flip left it: a space of the epoch before
pub record OldSpace (E : Era) (traced old_front old_low : ℕ) (size heap : ℕ → ℕ) (page : ℕ → PageWord) : Type 0 where
  pub walks : traced ≤ E.epoch → (epoch : ℕ) → epoch + 1 ≡ E.epoch
      → SpaceOf E.old_start old_front old_low (E.old_start + E.old_span) epoch size heap page

-- its area word is in order at all times: who slept past the end of a cycle reads there what the flip left
pub record OldArea (E : Era) (old_front old_low : ℕ) : Type 0 where
  pub order : (E.old_start ≤ old_front) × (old_front ≤ old_low) × (old_low ≤ E.old_start + E.old_span)
