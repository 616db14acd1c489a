-- The text of the last checkpoint.
use Rattle.std.specs.Prelude.{◌≡◌, ℕ, List, [], ◌++◌}
use Rattle.plain_state.specs.State.{Snapped}
use Rattle.plain_heap.specs.Checkpoints.Checkpoint.{checkpoint_lines}
use Rattle.heap_state.specs.Saving.Said.{SaysCheckpoint}
use Rattle.checkpoint_text.specs.Heap.{AreWholeTable}

-- The words are a table with room for checkpoints, and say this one.
pub record TellsCheckpoint (words : List ℕ) (number : ℕ) (kept : Snapped) : Type 0 where
  pub pages : ℕ
  pub table : AreWholeTable pages words
  pub says : SaysCheckpoint pages words number kept

-- the words are no table with room for checkpoints
abbrev pub HaveNoRoom : List ℕ → Type 0
HaveNoRoom words = (n : ℕ) → AreWholeTable n words → ⊥

-- Whichever checkpoint the words tell, these bytes are its lines. There are none if the words have no room for checkpoints.
pub record AreLinesOf (words bytes : List ℕ) : Type 0 where
  pub told : (number : ℕ) (kept : Snapped) → TellsCheckpoint words number kept → checkpoint_lines number kept bytes
  pub none : HaveNoRoom words → bytes ≡ []

-- the second text is the first one with these lines behind it
abbrev pub AddsLinesOf : (words text longer : List ℕ) → Type 0
AddsLinesOf words text longer = (bytes : List ℕ) × AreLinesOf words bytes × (longer ≡ text ++ bytes)
