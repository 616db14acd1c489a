-- The whole table of a heap with checkpoints: the rows that each table has, and those behind them.
use Rattle.std.specs.Prelude.{◌≡◌, ◌≢◌, ℕ, ◌≤◌, List, length, slice_index}
use Rattle.space_map.specs.Spaces.{Layout}
use Rattle.space_map.specs.Table.{Row, SaveRow, IsRow, IsSaveRow, place_of, save_place_of, whole_length}

-- a row that each table has, or one that only a table with checkpoints has
pub data WholeRow : Type 0 where
  Within : (row : Row) → WholeRow
  Behind : (row : SaveRow) → WholeRow

-- the whole table has this row
abbrev pub IsWholeRow : ℕ → WholeRow → Type 0
IsWholeRow n (Within row) = IsRow n row
IsWholeRow n (Behind row) = IsSaveRow n row

-- where the row stands in the table
abbrev pub whole_place_of : ℕ → WholeRow → ℕ
whole_place_of n (Within row) = place_of n row
whole_place_of n (Behind row) = save_place_of n row

-- the words hold such a table
abbrev pub HoldsWhole : Layout → List ℕ → Type 0
HoldsWhole layout words = whole_length layout ≤ length words

-- the word of a row, in a table with n pages a space
abbrev pub whole_word : (pages : ℕ) → WholeRow → List ℕ → ℕ
whole_word n row words = slice_index words (whole_place_of n row)

-- no word but a row's is another then
abbrev pub ChangesWholeOnly : (pages : ℕ) → WholeRow → (before after : List ℕ) → Type 0
ChangesWholeOnly n row before after = (place : ℕ) → place ≢ whole_place_of n row → slice_index after place ≡ slice_index before place
