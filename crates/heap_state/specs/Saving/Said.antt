-- What the words of a table say of the last checkpoint, to who reads them while nothing is stored.
use Rattle.std.specs.Prelude.{◌≡◌, ℕ, ◌<◌, ◌≤◌, List, true}
use Rattle.plain_state.specs.State.{Snapped}
use Rattle.space_map.specs.Spaces.{page_of, board_page}
use Rattle.heap_state.specs.Memory.Table.{table_of}
use Rattle.heap_state.specs.Saving.Words.{saves_of, word_read, AreFormedSaves}
use Rattle.heap_state.specs.Saving.Frozen.{Frozen}
use Rattle.heap_state.specs.Saving.Kept.{KeepsPicture}

-- The words of a table with n pages a space say this checkpoint: SNAP is its number; and if one was begun, what is read of its pages
-- is a heap that shows what was kept.
pub record SaysCheckpoint (n : ℕ) (words : List ℕ) (number : ℕ) (kept : Snapped) : Type 0 where
  pub frozen : Frozen
  pub formed : AreFormedSaves n words
  pub number_is : (saves_of n words).snap ≡ number
  pub picture : 0 < number → KeepsPicture n frozen kept.board kept.records
  pub within : (page : ℕ) → frozen.held page ≡ true → page ≤ board_page n
  pub read : 0 < number → (x : ℕ) → frozen.held (page_of x) ≡ true → word_read (saves_of n words) (table_of n words).heap x ≡ frozen.heap x
