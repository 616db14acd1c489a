-- Tables with room for checkpoints, written from a list of rows with what they say, and what that is of checkpoints.
use Rattle.std.specs.Prelude.{ℕ, List, [], ◌∷◌, replicate, slice_set}
use Rattle.space_map.specs.Table.{saving_length}
use Rattle.space_map.specs.declared.save_word.SaveWord.TheVariants.{Unsaved}
use Rattle.heap_state.specs.Functions.{put}
use Rattle.heap_state.specs.Memory.Entries.{Entry, SnapIs, LastSavedIs, SaveIs, ImageIs, row_of, word_of, whole_place_of}
use Rattle.heap_state.specs.Saving.Words.{Saves}

-- what is said of checkpoints if the row says it
abbrev pub saves_with : Entry → Saves → Saves
saves_with (SnapIs number) s = record s { snap = number }
saves_with (LastSavedIs number) s = record s { done = number }
saves_with (SaveIs page v) s = record s { save = put s.save page v }
saves_with (ImageIs addr word) s = record s { image = put s.image addr word }
saves_with _ s = s

-- what a table says of checkpoints all of whose words are 0
abbrev pub blank_saves : Saves
blank_saves = record { snap = 0; done = 0; save = λ page. Unsaved; image = λ addr. 0 }

-- the words of a table with room for checkpoints, all 0
abbrev pub blank_whole : ℕ → List ℕ
blank_whole n = replicate (saving_length n) 0

-- the words after these rows were written there, the last of the list first
abbrev pub written_whole : ℕ → List Entry → List ℕ
written_whole n [] = blank_whole n
written_whole n (e ∷ entries) = slice_set (written_whole n entries) (whole_place_of n (row_of e)) (word_of e)

-- what they say of checkpoints
abbrev pub saves_with_all : List Entry → Saves
saves_with_all [] = blank_saves
saves_with_all (e ∷ entries) = saves_with e (saves_with_all entries)
