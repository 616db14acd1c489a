-- The words of a table by their rows.
use Rattle.std.specs.Prelude.{◌≡◌, ◌≢◌, ℕ, ◌≤◌, List, length, slice_index}
use Rattle.space_map.specs.Table.{Row, place_of, table_length}

-- the word of a row, in a table with n pages a space
abbrev pub row_word : (pages : ℕ) → Row → List ℕ → ℕ
row_word n row words = slice_index words (place_of n row)

-- the words hold such a table
abbrev pub HoldsTable : (pages : ℕ) → List ℕ → Type 0
HoldsTable n words = table_length n ≤ length words

-- no word but a row's is another then
abbrev pub ChangesOnly : (pages : ℕ) → Row → (before after : List ℕ) → Type 0
ChangesOnly n row before after = (place : ℕ) → place ≢ place_of n row → slice_index after place ≡ slice_index before place
