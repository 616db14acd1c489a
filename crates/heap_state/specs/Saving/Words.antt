-- The words of checkpoints: how many were begun and finished, what is said of each page, and the saved words.
use Rattle.std.specs.Prelude.{◌≡◌, ℕ, ◌+◌, ◌*◌, ◌≤◌, ◌==◌, ◌||◌, Bool, false, List, length, Some, unwrap_or, slice_index, if◌then◌else◌}
use Rattle.space_map.specs.declared.save_word.SaveWord.{SaveWord}
use Rattle.space_map.specs.declared.save_word.SaveWord.TheVariants.{Unsaved, Saving, Saved, New}
use Rattle.space_map.specs.SaveWord.{decode_save}
use Rattle.space_map.specs.Spaces.{page_of}
use Rattle.space_map.specs.Table.{SnapNumber, LastSaved, SaveRow, SaveOf, ImageOf, is_save_row, save_place_of, saving_length}
use Rattle.heap_state.specs.Memory.Table.{word_in}

-- SNAP, the number of the last checkpoint begun; DONE, that of the last one finished; what each page's SAVE says; and the
-- word that is saved of each address
pub record Saves : Type 0 where
  pub snap : ℕ
  pub done : ℕ
  pub save : ℕ → SaveWord
  pub image : ℕ → ℕ

-- ---- read from a table

-- the word in a row of checkpoints, or 0 if the table has no such row
unfoldable pub save_word_in : ℕ → List ℕ → SaveRow → ℕ
save_word_in n words row = if is_save_row n row then slice_index words (save_place_of n row) else 0

-- a page's SAVE; one that is no such word says nothing
abbrev pub save_said_in : ℕ → SaveWord
save_said_in w = unwrap_or (decode_save w) Unsaved

-- what the words of a table say
unfoldable pub saves_of : ℕ → List ℕ → Saves
saves_of n words = record {
  snap = word_in n words SnapNumber;
  done = word_in n words LastSaved;
  save = λ page. save_said_in (save_word_in n words (SaveOf page));
  image = λ addr. save_word_in n words (ImageOf addr);
}

-- the words hold the whole table with its room for checkpoints, and each SAVE can be read
pub record AreFormedSaves (n : ℕ) (words : List ℕ) : Type 0 where
  pub whole : saving_length n ≤ length words
  pub saves : (page : ℕ) → page ≤ 2 * n → decode_save (save_word_in n words (SaveOf page)) ≡ Some (save_said_in (save_word_in n words (SaveOf page)))

-- ---- how far a checkpoint is

-- checkpoint c is in progress: it was begun last, and isn't finished
abbrev pub IsInProgress : Saves → ℕ → Type 0
IsInProgress s c = (s.snap ≡ c) × (s.done + 1 ≡ c)

-- no checkpoint is in progress
abbrev pub IsAtRest : Saves → Type 0
IsAtRest s = s.done ≡ s.snap

-- ---- what a reader of the last checkpoint reads

-- the page is saved for this checkpoint
abbrev pub is_saved_for : ℕ → SaveWord → Bool
is_saved_for c Unsaved = false
is_saved_for c (Saving number worker) = false
is_saved_for c (Saved number) = number == c
is_saved_for c (New number) = false

-- the page's words are read where they are saved: the checkpoint is finished, or the page is saved for it
abbrev pub reads_saved : Saves → (page : ℕ) → Bool
reads_saved s page = (s.done == s.snap) || is_saved_for s.snap (s.save page)

-- the word of an address in the last checkpoint
abbrev pub word_read : Saves → (heap : ℕ → ℕ) → (addr : ℕ) → ℕ
word_read s heap addr = if reads_saved s (page_of addr) then s.image addr else heap addr
