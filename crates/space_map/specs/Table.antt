-- The heap's table of words, with n pages a space: its rows and the place of each.
use Rattle.std.specs.Prelude.{ℕ, ◌+◌, ◌*◌, ◌<◌, ◌≤◌, ⊤, Bool, true, nat_lt, nat_le, if◌then◌else◌}
use Rattle.space_map.specs.declared.spaces.TheConstants.{LAST_WORKER}
use Rattle.space_map.specs.Spaces.{Layout}

-- a word of the table by what it is for
pub data Row : Type 0 where
  Gate : Row
  Traced : Row
  Area : (space : ℕ) → Row
  WeakHead : Row
  WeakTurn : Row
  Size : (space : ℕ) → Row
  SnapNumber : Row
  LastSaved : Row
  Page : (page : ℕ) → Row
  Cross : (page : ℕ) → Row
  HeapWord : (addr : ℕ) → Row
  Announce : (worker : ℕ) → Row

-- the table has this row
abbrev pub IsRow : ℕ → Row → Type 0
IsRow n Gate = ⊤
IsRow n Traced = ⊤
IsRow n (Area space) = space < 2
IsRow n WeakHead = ⊤
IsRow n WeakTurn = ⊤
IsRow n (Size space) = space < 2
IsRow n SnapNumber = ⊤
IsRow n LastSaved = ⊤
IsRow n (Page page) = page ≤ 2 * n
IsRow n (Cross page) = page < 2 * n
IsRow n (HeapWord addr) = addr ≤ 128 * n + 63
IsRow n (Announce worker) = worker ≤ LAST_WORKER

-- the same as a test
abbrev pub is_row : ℕ → Row → Bool
is_row n Gate = true
is_row n Traced = true
is_row n (Area space) = nat_lt space 2
is_row n WeakHead = true
is_row n WeakTurn = true
is_row n (Size space) = nat_lt space 2
is_row n SnapNumber = true
is_row n LastSaved = true
is_row n (Page page) = nat_le page (2 * n)
is_row n (Cross page) = nat_lt page (2 * n)
is_row n (HeapWord addr) = nat_le addr (128 * n + 63)
is_row n (Announce worker) = nat_le worker LAST_WORKER

-- where the row stands in the table
unfoldable pub place_of : ℕ → Row → ℕ
place_of n Gate = 0
place_of n Traced = 2
place_of n (Area space) = 4 + space
place_of n WeakHead = 6
place_of n WeakTurn = 7
place_of n (Size space) = 12 + space
place_of n SnapNumber = 14
place_of n LastSaved = 15
place_of n (Page page) = 16 + page
place_of n (Cross page) = 17 + 2 * n + page
place_of n (HeapWord addr) = 17 + 4 * n + addr
place_of n (Announce worker) = 81 + 132 * n + worker

-- the number of words in the table
abbrev pub table_length : ℕ → ℕ
table_length n = 132 * n + (82 + LAST_WORKER)

-- ---- with room for checkpoints

-- a word that such a table has behind these: what is said of a page, and the saved word of an address
pub data SaveRow : Type 0 where
  SaveOf : (page : ℕ) → SaveRow
  ImageOf : (addr : ℕ) → SaveRow

-- the table has this row
abbrev pub IsSaveRow : ℕ → SaveRow → Type 0
IsSaveRow n (SaveOf page) = page ≤ 2 * n
IsSaveRow n (ImageOf addr) = addr ≤ 128 * n + 63

-- the same as a test
abbrev pub is_save_row : ℕ → SaveRow → Bool
is_save_row n (SaveOf page) = nat_le page (2 * n)
is_save_row n (ImageOf addr) = nat_le addr (128 * n + 63)

-- where the row stands in the table
unfoldable pub save_place_of : ℕ → SaveRow → ℕ
save_place_of n (SaveOf page) = 82 + LAST_WORKER + 132 * n + page
save_place_of n (ImageOf addr) = 83 + LAST_WORKER + 134 * n + addr

-- the number of words in such a table
abbrev pub saving_length : ℕ → ℕ
saving_length n = 262 * n + (147 + LAST_WORKER)

-- the number of words in a layout's table
abbrev pub whole_length : Layout → ℕ
whole_length layout = if layout.checkpoints then saving_length layout.pages else table_length layout.pages
