-- Which words of pages, and which areas and sizes, a step leaves as they were, by the row that it writes.
use Rattle.std.proofs.Common.{◌≡◌, ◌≢◌, ℕ, true, false, List, Some, refl, arith, ⊎_elim}
use Rattle.std.specs.Prelude.{⊤, ◌<◌}
use Rattle.std.proofs.lemmas.Bool.{cases_Bool}
use Rattle.atom_store.specs.declared.step.Step.{Step}
use Rattle.atom_store.specs.declared.step.Step.TheVariants as step
use Rattle.atom_store.specs.Step.{place_in, words_after}
use Rattle.atom_store.specs.StepOn.{StepOn, Load, Store, Exchange, WritesOnly, step_at}
use Rattle.atom_store.proofs.StepWords.{slice_index-words_after}
use Rattle.space_map.specs.Table.{Row, Area, Size, Page, SaveOf, ImageOf, IsRow, place_of, save_place_of}
use Rattle.space_map.specs.WholeTable.{WholeRow, Within, Behind, whole_place_of}
use Rattle.heap_state.specs.Memory.Table.{is_row, word_in}
use Rattle.heap_state.proofs.Table.StoredRows.{row_is}

-- ---- rows

-- a row of no area
abbrev pub IsNoArea : Row → Type 0
IsNoArea (Area space) = ⊥
IsNoArea row = ⊤

-- a row of no size, and if it is an area, that of a space
abbrev pub IsNoSize : Row → Type 0
IsNoSize (Size space) = ⊥
IsNoSize (Area space) = space < 2
IsNoSize row = ⊤

-- a row of no area and no page, and if it is a size, that of a space
abbrev pub IsOther : Row → Type 0
IsOther (Area space) = ⊥
IsOther (Page page) = ⊥
IsOther (Size space) = space < 2
IsOther row = ⊤

is_no_area : (row : Row) → IsOther row → IsNoArea row
is_no_area (Area space) other = other
is_no_area row other = tt

-- so is each row of checkpoints behind the table
abbrev pub Elsewhere : (Row → Type 0) → WholeRow → Type 0
Elsewhere Q (Within row) = Q row
Elsewhere Q (Behind row) = ⊤

page_apart : (n page : ℕ) (row : WholeRow) → Elsewhere IsOther row → IsRow n (Page page) → place_of n (Page page) ≢ whole_place_of n row
unfolding place_of save_place_of
page_apart n page (Within (Area space)) other is same = other
page_apart n page (Within (Page another)) other is same = other
page_apart n page (Within (Size space)) other is same = omega (arith, other, is, same)
page_apart n page (Within row) other is same = omega (arith, is, same)
page_apart n page (Behind (SaveOf another)) other is same = omega (arith, is, same)
page_apart n page (Behind (ImageOf addr)) other is same = omega (arith, is, same)

-- whatever pages the other row's table has
area_apart : (n m space : ℕ) (row : WholeRow) → Elsewhere IsNoArea row → IsRow n (Area space) → place_of n (Area space) ≢ whole_place_of m row
unfolding place_of save_place_of
area_apart n m space (Within (Area another)) other is same = other
area_apart n m space (Within row) other is same = omega (arith, is, same)
area_apart n m space (Behind (SaveOf page)) other is same = omega (arith, is, same)
area_apart n m space (Behind (ImageOf addr)) other is same = omega (arith, is, same)

-- of a space
size_apart : (n m space : ℕ) → space < 2 → (row : WholeRow) → Elsewhere IsNoSize row → IsRow n (Size space) → place_of n (Size space) ≢ whole_place_of m row
unfolding place_of save_place_of
size_apart n m space small (Within (Size another)) other is same = other
size_apart n m space small (Within row) other is same = omega (arith, small, is, same)
size_apart n m space small (Behind (SaveOf page)) other is same = omega (arith, small, is, same)
size_apart n m space small (Behind (ImageOf addr)) other is same = omega (arith, small, is, same)

-- ---- steps

-- the word of a row stays where the step is of another place
pub row_stays : (n : ℕ) (words : List ℕ) (step : Step) (row : Row) → (IsRow n row → place_of n row ≢ place_in step) → word_in n (words_after step words) row ≡ word_in n words row
unfolding word_in
row_stays n words step row other = ⊎_elim
    (λ (e : is_row n row ≡ true). rw e (slice_index-words_after step words (place_of n row) (other (row_is n row e))))
    (λ (e : is_row n row ≡ false). rw e refl)
    (cases_Bool (is_row n row))

module _ (n m : ℕ) (words : List ℕ) where
  -- so where the step, in a table with m pages a space, writes no row that stands there
  unwritten : (row : Row) (Q : WholeRow → Type 0) → ((written : WholeRow) → Q written → IsRow n row → place_of n row ≢ whole_place_of m written) → (on : StepOn WholeRow) → WritesOnly Q (Some on)
      → word_in n (words_after (step_at (whole_place_of m) on) words) row ≡ word_in n words row
  unwritten row Q apart (Load on) writes = refl
  unwritten row Q apart (Store on word) writes = row_stays n words (step.Store (whole_place_of m on) word) row (apart on writes)
  unwritten row Q apart (Exchange on old new) writes = row_stays n words (step.Exchange (whole_place_of m on) old new) row (apart on writes)

  pub whole_area_stays : (on : StepOn WholeRow) (space : ℕ) → WritesOnly (Elsewhere IsNoArea) (Some on)
      → word_in n (words_after (step_at (whole_place_of m) on) words) (Area space) ≡ word_in n words (Area space)
  whole_area_stays on space writes = unwritten (Area space) (Elsewhere IsNoArea) (area_apart n m space) on writes

  pub whole_size_stays : (on : StepOn WholeRow) (space : ℕ) → space < 2 → WritesOnly (Elsewhere IsNoSize) (Some on)
      → word_in n (words_after (step_at (whole_place_of m) on) words) (Size space) ≡ word_in n words (Size space)
  whole_size_stays on space small writes = unwritten (Size space) (Elsewhere IsNoSize) (size_apart n m space small) on writes

  -- a step on a row of the table
  pub area_stays : (on : StepOn Row) (space : ℕ) → WritesOnly IsNoArea (Some on) → word_in n (words_after (step_at (place_of m) on) words) (Area space) ≡ word_in n words (Area space)
  area_stays (Load on) space writes = refl
  area_stays (Store on word) space writes = whole_area_stays (Store (Within on) word) space writes
  area_stays (Exchange on old new) space writes = whole_area_stays (Exchange (Within on) old new) space writes

  pub size_stays : (on : StepOn Row) (space : ℕ) → space < 2 → WritesOnly IsNoSize (Some on) → word_in n (words_after (step_at (place_of m) on) words) (Size space) ≡ word_in n words (Size space)
  size_stays (Load on) space small writes = refl
  size_stays (Store on word) space small writes = whole_size_stays (Store (Within on) word) space small writes
  size_stays (Exchange on old new) space small writes = whole_size_stays (Exchange (Within on) old new) space small writes

module _ (n : ℕ) (words : List ℕ) (on : StepOn WholeRow) (writes : WritesOnly (Elsewhere IsOther) (Some on)) where
  pub other_page_stays : (page : ℕ) → word_in n (words_after (step_at (whole_place_of n) on) words) (Page page) ≡ word_in n words (Page page)
  other_page_stays page = unwritten n n words (Page page) (Elsewhere IsOther) (page_apart n page) on writes

  pub other_area_stays : (space : ℕ) → word_in n (words_after (step_at (whole_place_of n) on) words) (Area space) ≡ word_in n words (Area space)
  other_area_stays space = unwritten n n words (Area space) (Elsewhere IsOther) (λ row other. area_apart n n space row (no_area row other)) on writes
    where
      no_area : (row : WholeRow) → Elsewhere IsOther row → Elsewhere IsNoArea row
      no_area (Within row) other = is_no_area row other
      no_area (Behind row) other = tt
