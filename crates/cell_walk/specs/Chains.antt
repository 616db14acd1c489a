-- The chain of cells in the words of a table, and what the walk is to make of the words.
use Rattle.std.specs.Prelude.{◌≡◌, ℕ, ◌+◌, ◌*◌, ◌<◌, ◌≤◌, ◌⊎◌, true, List, [], ◌∷◌, map, length, All, AllPairs, if◌then◌else◌}
use Rattle.atom_store.specs.Runs.{with_words}
use Rattle.heap_words.specs.Decoded.{Decoded, NumberWord, PointerWord, HeaderWord, ForwardWord, BusyWord, Malformed, decode}
use Rattle.space_map.specs.Spaces.{Layout}
use Rattle.space_map.specs.Table.{WeakHead, WeakTurn, HeapWord, place_of}
use Rattle.space_map.specs.TableWords.{row_word, HoldsTable}
use Rattle.cell_walk.specs.Taken.{is_old, replacement}
use Rattle.cell_walk.specs.Walking.{most_cells}

-- the heap word at an address, of a table's words
abbrev pub heap_in : Layout → List ℕ → ℕ → ℕ
heap_in l words x = row_word l.pages (HeapWord x) words

-- ---- the chain

-- This word leads to these cells, by their addresses, in this order: a cell's address and one more leads to it, and from there
-- its link leads on. At the end it is 0.
abbrev pub LeadsAlong : (heap : ℕ → ℕ) → ℕ → (cells : List ℕ) → Type 0
LeadsAlong heap word [] = word ≡ 0
LeadsAlong heap word (cell ∷ cells) = (word ≡ cell + 1) × LeadsAlong heap (heap (cell + 2)) cells

-- the address is of none of the cell's three words
abbrev pub IsNotOf : (cell address : ℕ) → Type 0
IsNotOf cell address = (address < cell) ⊎ (cell + 2 < address)

-- two cells have no word in common
abbrev pub AreApart : (a b : ℕ) → Type 0
AreApart a b = (a + 2 < b) ⊎ (b + 2 < a)

-- the cell's target leads into the old space, to this address
pub record LeadsBack (l : Layout) (epoch : ℕ) (words : List ℕ) (cell old : ℕ) : Type 0 where
  pub leads : decode (heap_in l words (cell + 1)) ≡ PointerWord old
  pub back : is_old l epoch old ≡ true

-- none of the cells lies over the first word of an old record to which one's target leads
abbrev pub LieBesideOld : Layout → (epoch : ℕ) → List ℕ → (cells : List ℕ) → Type 0
LieBesideOld l epoch words cells = All (λ cell. All (λ other. (old : ℕ) → LeadsBack l epoch words other old → IsNotOf cell old) cells) cells

-- The cells of the chain, in its order: there are no more than a space holds, and they lie in the heap, apart from each other
-- and from the old records that are looked at.
pub record IsChain (l : Layout) (epoch : ℕ) (words : List ℕ) (cells : List ℕ) : Type 0 where
  pub whole : HoldsTable l.pages words
  pub linked : LeadsAlong (heap_in l words) (row_word l.pages WeakHead words) cells
  pub few : length cells ≤ most_cells l.pages
  pub inside : All (λ cell. cell + 2 < 128 * l.pages) cells
  pub apart : AllPairs AreApart cells
  pub beside_old : LieBesideOld l epoch words cells

-- ---- the words when all cells are passed

-- a target that says this, as it is to be: one that leads into the old space is replaced, another stays
abbrev pub target_said : Layout → (epoch : ℕ) → (heap : ℕ → ℕ) → (target : ℕ) → Decoded → ℕ
target_said l epoch heap target (PointerWord address) = if is_old l epoch address then replacement (decode (heap address)) else target
target_said l epoch heap target (NumberWord n) = target
target_said l epoch heap target (HeaderWord kind len serial mutator) = target
target_said l epoch heap target (ForwardWord len address) = target
target_said l epoch heap target (BusyWord len worker) = target
target_said l epoch heap target Malformed = target

-- a cell's target as it is to be
abbrev pub target_passed : Layout → (epoch : ℕ) → List ℕ → (cell : ℕ) → ℕ
target_passed l epoch words cell = target_said l epoch (heap_in l words) (heap_in l words (cell + 1)) (decode (heap_in l words (cell + 1)))

-- where a cell's target stands
abbrev pub target_place : Layout → (cell : ℕ) → ℕ
target_place l cell = place_of l.pages (HeapWord (cell + 1))

-- its place, and that target
abbrev pub entry_passed : Layout → (epoch : ℕ) → List ℕ → (cell : ℕ) → ℕ × ℕ
entry_passed l epoch words cell = (target_place l cell, target_passed l epoch words cell)

-- the words but for the turn, which is taken in this epoch, and the cells' targets
abbrev pub words_passed : Layout → (epoch : ℕ) → List ℕ → (cells : List ℕ) → List ℕ
words_passed l epoch words cells = with_words ((place_of l.pages WeakTurn, epoch + 1) ∷ map (entry_passed l epoch words) cells) words
