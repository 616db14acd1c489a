-- The two spaces of n pages each and the board after them: where their pages and words lie.
use Rattle.std.specs.Prelude.{ℕ, ◌+◌, ◌*◌, ◌/◌, ◌%◌, ◌<◌, ◌≤◌, ◌&&◌, Bool, false, nat_le}
use Rattle.space_map.specs.declared.spaces.TheConstants.{MOST_PAGES, FEWEST_PAGES, PAGE_WORDS}

-- the layout of a heap: how many pages a space has, and whether the table has room for checkpoints
pub record Layout : Type 0 where
  pub pages : ℕ
  pub checkpoints : Bool

-- that of so many pages, without room for checkpoints
abbrev pub without_checkpoints : ℕ → Layout
without_checkpoints n = record { pages = n; checkpoints = false }

-- a space may have this many pages
abbrev pub IsPageCount : ℕ → Type 0
IsPageCount n = (FEWEST_PAGES ≤ n) × (n ≤ MOST_PAGES)

-- the same as a test
abbrev pub is_size : ℕ → Bool
is_size n = nat_le FEWEST_PAGES n && nat_le n MOST_PAGES

-- the page that a word lies on
abbrev pub page_of : ℕ → ℕ
page_of addr = addr / PAGE_WORDS

-- the first word of a page
abbrev pub first_word : ℕ → ℕ
first_word page = PAGE_WORDS * page

-- the first page that begins at the address or behind it
abbrev pub first_page_from : ℕ → ℕ
first_page_from address = (address + 63) / 64

-- the record at this address, of so many words, holds the page's first word
abbrev pub HoldsFirstWord : (at size page : ℕ) → Type 0
HoldsFirstWord at size page = (at ≤ first_word page) × (first_word page < at + size)

-- the space into which records are copied in an epoch
abbrev pub to_space : ℕ → ℕ
to_space epoch = epoch % 2

-- the first word of a space
abbrev pub space_start : ℕ → ℕ → ℕ
space_start n space = first_word (n * space)

-- the word is one of a space's own
abbrev pub IsInSpace : ℕ → ℕ → ℕ → Type 0
IsInSpace n addr space = (space < 2) × (space_start n space ≤ addr) × (addr < space_start n space + PAGE_WORDS * n)

-- past each address of a heap, however many pages it has, and past the end of a longest record there
abbrev pub past_heaps : ℕ
past_heaps = 4 * PAGE_WORDS * MOST_PAGES

-- the board's page, the one after both spaces
abbrev pub board_page : ℕ → ℕ
board_page n = 2 * n
