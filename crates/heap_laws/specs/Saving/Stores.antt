-- Rows of checkpoints: what a load there reads, and what is said of checkpoints after a row is written, or none.
use Rattle.std.specs.Prelude.{◌≡◌, ℕ, ◌*◌, ◌≤◌, List, length, Option, Some, None, slice_index}
use Rattle.space_map.specs.SaveWord.{SaveFits, encode_save}
use Rattle.space_map.specs.Table.{SnapNumber, LastSaved, SaveRow, SaveOf, IsSaveRow, save_place_of, saving_length}
use Rattle.heap_state.specs.Memory.Entries.{Entry}
use Rattle.heap_state.specs.Memory.Table.{word_in}
use Rattle.heap_state.specs.Saving.Words.{Saves, save_word_in, saves_of, AreFormedSaves}
use Rattle.heap_state.specs.Saving.Written.{saves_with}
use Rattle.heap_laws.specs.Lifting.{words_after_row, RowFits}
use Rattle.heap_laws.specs.Saving.Rows.{NoneWasBegun, nothing_frozen}

-- ---- loads

-- The word at the place of a row of checkpoints is the one that is read there, and a page's SAVE is the word that spells what it says.
pub record SavesAreRead : Type 0 where
  pub rows : (n : ℕ) (words : List ℕ) (row : SaveRow) → IsSaveRow n row → slice_index words (save_place_of n row) ≡ save_word_in n words row
  pub saves : (n : ℕ) (words : List ℕ) → AreFormedSaves n words → (page : ℕ) → page ≤ 2 * n
      → save_word_in n words (SaveOf page) ≡ encode_save ((saves_of n words).save page)
  pub fits : (n : ℕ) (words : List ℕ) → AreFormedSaves n words → (page : ℕ) → page ≤ 2 * n → SaveFits ((saves_of n words).save page)

-- the words say that no checkpoint was begun, and can be read if there is room for one
pub record SaveNothing (n : ℕ) (words : List ℕ) : Type 0 where
  pub none : NoneWasBegun (saves_of n words) nothing_frozen
  pub formed : saving_length n ≤ length words → AreFormedSaves n words

-- those in which SNAP, DONE and each SAVE are 0, as in a table without room for checkpoints each SAVE is
abbrev pub BlankWordsSaveNothing : Type 0
BlankWordsSaveNothing = (n : ℕ) (words : List ℕ) → word_in n words SnapNumber ≡ 0 → word_in n words LastSaved ≡ 0
    → ((page : ℕ) → save_word_in n words (SaveOf page) ≡ 0) → SaveNothing n words

-- ---- a row with what it says

-- after a row is written, or none
abbrev pub saves_after : Saves → Option Entry → Saves
saves_after s None = s
saves_after s (Some e) = saves_with e s

-- the words after a row is written, or none, say that of checkpoints, and can be read as before
pub record SavesSaid (n : ℕ) (words : List ℕ) (e : Option Entry) : Type 0 where
  pub says : saves_of n (words_after_row n words e) ≡ saves_after (saves_of n words) e
  pub formed : AreFormedSaves n (words_after_row n words e)

abbrev pub SavesFollow : Type 0
SavesFollow = (n : ℕ) (words : List ℕ) (e : Option Entry) → AreFormedSaves n words → RowFits n e → SavesSaid n words e
