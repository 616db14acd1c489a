-- What is proved of rows of checkpoints: what a store in a row of the table or of theirs changes of what is said, and what is read of
-- the last checkpoint.
use Rattle.std.specs.Prelude.{◌≡◌, ◌≢◌, ℕ, ◌+◌, ◌*◌, ◌≤◌, List, length, slice_set, true}
use Rattle.plain_state.specs.State as plain
use Rattle.space_map.specs.declared.save_word.SaveWord.{SaveWord}
use Rattle.space_map.specs.SaveWord.{SaveFits, encode_save}
use Rattle.space_map.specs.Spaces.{page_of}
use Rattle.space_map.specs.Table.{Row, SnapNumber, LastSaved, SaveOf, ImageOf, IsRow, place_of, save_place_of, table_length, saving_length}
use Rattle.heap_state.specs.Functions.{put}
use Rattle.heap_state.specs.Memory.Entries.{Entry, EachFits, HasSizes, table_with}
use Rattle.heap_state.specs.Memory.Table.{Table, table_of, IsFormed}
use Rattle.heap_state.specs.Saving.Words.{Saves, saves_of, AreFormedSaves, word_read}
use Rattle.heap_state.specs.Saving.Frozen.{Frozen}
use Rattle.heap_state.specs.Saving.Savers.{Saver}
use Rattle.heap_state.specs.Saving.Parts.{SavingWords, SavingStands}
use Rattle.heap_state.specs.Saving.Kept.{ShowsSnapped}
use Rattle.heap_state.specs.Saving.Said.{SaysCheckpoint}
use Rattle.heap_state.specs.Saving.Written.{written_whole, saves_with_all}

-- the words after a store at a place say this of checkpoints, and can be read as before
pub record SavesAre (n : ℕ) (words : List ℕ) (place word : ℕ) (s : Saves) : Type 0 where
  pub says : saves_of n (slice_set words place word) ≡ s
  pub formed : AreFormedSaves n words → AreFormedSaves n (slice_set words place word)

-- and they say of the table what they said before
pub record ChangesSaves (n : ℕ) (words : List ℕ) (place word : ℕ) (s : Saves) : Type 0 where
  pub saves : SavesAre n words place word s
  pub table : table_of n (slice_set words place word) ≡ table_of n words

-- ---- in rows of the table

-- a store in a row of the table but SNAP and DONE leaves what is said of checkpoints
abbrev pub SavesStay : Type 0
SavesStay = (n : ℕ) (words : List ℕ) (row : Row) (word : ℕ) → IsRow n row → row ≢ SnapNumber → row ≢ LastSaved
    → SavesAre n words (place_of n row) word (saves_of n words)

-- one in SNAP or DONE changes that number alone
pub record NumbersAreStored : Type 0 where
  pub snap : (n : ℕ) (words : List ℕ) (number : ℕ) → table_length n ≤ length words
      → ChangesSaves n words (place_of n SnapNumber) number (record (saves_of n words) { snap = number })
  pub done : (n : ℕ) (words : List ℕ) (number : ℕ) → table_length n ≤ length words
      → ChangesSaves n words (place_of n LastSaved) number (record (saves_of n words) { done = number })

-- ---- in rows behind it

-- a store in a page's SAVE, or in the IMAGE of an address, changes that alone
pub record SavesAreStored : Type 0 where
  pub save : (n : ℕ) (words : List ℕ) (page : ℕ) (v : SaveWord) → saving_length n ≤ length words → page ≤ 2 * n → SaveFits v
      → ChangesSaves n words (save_place_of n (SaveOf page)) (encode_save v) (record (saves_of n words) { save = put (saves_of n words).save page v })
  pub image : (n : ℕ) (words : List ℕ) (addr word : ℕ) → saving_length n ≤ length words → addr ≤ 128 * n + 63
      → ChangesSaves n words (save_place_of n (ImageOf addr)) word (record (saves_of n words) { image = put (saves_of n words).image addr word })

-- ---- tables from entries

-- the words of a table with room for checkpoints that was written from these entries
pub record WrittenWhole (n : ℕ) (entries : List Entry) : Type 0 where
  pub formed : IsFormed n (written_whole n entries)
  pub says : table_of n (written_whole n entries) ≡ table_with n entries
  pub saves_formed : AreFormedSaves n (written_whole n entries)
  pub saves : saves_of n (written_whole n entries) ≡ saves_with_all entries

abbrev pub WritesWholeTables : Type 0
WritesWholeTables = (n : ℕ) (entries : List Entry) → EachFits n entries → HasSizes entries → WrittenWhole n entries

-- ---- what is read

-- the word that is read of an address on a page of the last checkpoint is the word of then
abbrev pub WordsReadAreFrozen : Type 0
WordsReadAreFrozen = (t : Table) (s : Saves) (z : Frozen) (x : ℕ) → SavingWords t s z → z.held (page_of x) ≡ true → word_read s t.heap x ≡ z.heap x

-- If what is kept of checkpoints stands, and the heap of then shows what the plain heap has kept, the words say that checkpoint.
abbrev pub CheckpointsAreSaid : Type 0
CheckpointsAreSaid = (n : ℕ) (words : List ℕ) (z : Frozen) (count : ℕ) (saver : ℕ → Saver) (heap : plain.Heap) → AreFormedSaves n words
    → SavingStands (table_of n words) (saves_of n words) z count saver → ShowsSnapped n (saves_of n words) z heap
    → SaysCheckpoint n words heap.snaps heap.snapped
