-- Rows that the table has stand at places of their own, and the table ends after them.
use Rattle.std.proofs.Common.{◌≡◌, ◌≢◌, ℕ, ◌==◌, ◌<◌, ◌≤◌, Bool, true, false, Decides, refl, arith, ap}
use Rattle.std.proofs.lemmas.Bool.Decides.{Decides-eqb, Decides-like, nat_tests}
use Rattle.space_map.specs.Spaces.{Layout}
use Rattle.space_map.specs.Table.{Row, Gate, Traced, Area, WeakHead, WeakTurn, Size, SnapNumber, LastSaved, Page, Cross, HeapWord, Announce, IsRow, is_row, place_of, table_length}
use Rattle.space_map.specs.Table.{SaveRow, SaveOf, ImageOf, IsSaveRow, is_save_row, save_place_of, whole_length}

-- the test tells whether the table has the row
pub is_row-decides : (n : ℕ) (row : Row) → Decides (is_row n row) (IsRow n row)
is_row-decides n Gate = (λ test. tt, λ is. refl)
is_row-decides n Traced = (λ test. tt, λ is. refl)
is_row-decides n WeakHead = (λ test. tt, λ is. refl)
is_row-decides n WeakTurn = (λ test. tt, λ is. refl)
is_row-decides n SnapNumber = (λ test. tt, λ is. refl)
is_row-decides n LastSaved = (λ test. tt, λ is. refl)
is_row-decides n _ = (λ test. grind (arith, nat_tests), λ is. grind (arith, nat_tests))

-- ---- two rows

-- two rows are one
abbrev pub row_eq : Row → Row → Bool
row_eq Gate Gate = true
row_eq Traced Traced = true
row_eq WeakHead WeakHead = true
row_eq WeakTurn WeakTurn = true
row_eq SnapNumber SnapNumber = true
row_eq LastSaved LastSaved = true
row_eq (Area x) (Area y) = x == y
row_eq (Size x) (Size y) = x == y
row_eq (Page x) (Page y) = x == y
row_eq (Cross x) (Cross y) = x == y
row_eq (HeapWord x) (HeapWord y) = x == y
row_eq (Announce x) (Announce y) = x == y
row_eq _ _ = false

pub row_eq-decides : (a b : Row) → Decides (row_eq a b) (a ≡ b)
row_eq-decides Gate Gate = (λ test. refl, λ same. refl)
row_eq-decides Traced Traced = (λ test. refl, λ same. refl)
row_eq-decides WeakHead WeakHead = (λ test. refl, λ same. refl)
row_eq-decides WeakTurn WeakTurn = (λ test. refl, λ same. refl)
row_eq-decides SnapNumber SnapNumber = (λ test. refl, λ same. refl)
row_eq-decides LastSaved LastSaved = (λ test. refl, λ same. refl)
row_eq-decides (Area x) (Area y) = Decides-like (x == y) (ap Area) (λ same. cc) (Decides-eqb x y)
row_eq-decides (Size x) (Size y) = Decides-like (x == y) (ap Size) (λ same. cc) (Decides-eqb x y)
row_eq-decides (Page x) (Page y) = Decides-like (x == y) (ap Page) (λ same. cc) (Decides-eqb x y)
row_eq-decides (Cross x) (Cross y) = Decides-like (x == y) (ap Cross) (λ same. cc) (Decides-eqb x y)
row_eq-decides (HeapWord x) (HeapWord y) = Decides-like (x == y) (ap HeapWord) (λ same. cc) (Decides-eqb x y)
row_eq-decides (Announce x) (Announce y) = Decides-like (x == y) (ap Announce) (λ same. cc) (Decides-eqb x y)
row_eq-decides _ _ = (λ test. absurd (cc), λ same. absurd (cc))

-- ---- their places

-- one row's place is another's only where the rows are one
pub same_row : (n : ℕ) (a b : Row) → IsRow n a → IsRow n b → place_of n a ≡ place_of n b → a ≡ b
unfolding place_of
same_row n Gate Gate a b same = refl
same_row n Traced Traced a b same = refl
same_row n WeakHead WeakHead a b same = refl
same_row n WeakTurn WeakTurn a b same = refl
same_row n SnapNumber SnapNumber a b same = refl
same_row n LastSaved LastSaved a b same = refl
same_row n (Area x) (Area y) a b same = let e : x ≡ y = omega arith in ap Area e
same_row n (Size x) (Size y) a b same = let e : x ≡ y = omega arith in ap Size e
same_row n (Page x) (Page y) a b same = let e : x ≡ y = omega arith in ap Page e
same_row n (Cross x) (Cross y) a b same = let e : x ≡ y = omega arith in ap Cross e
same_row n (HeapWord x) (HeapWord y) a b same = let e : x ≡ y = omega arith in ap HeapWord e
same_row n (Announce x) (Announce y) a b same = let e : x ≡ y = omega arith in ap Announce e
same_row n _ _ a b same = absurd (omega arith)

pub place_of-apart : (n : ℕ) (a b : Row) → IsRow n a → IsRow n b → a ≢ b → place_of n a ≢ place_of n b
place_of-apart n a b a_is b_is apart same = apart (same_row n a b a_is b_is same)

pub place_of-lt : (n : ℕ) (row : Row) → IsRow n row → place_of n row < table_length n
unfolding place_of
place_of-lt n Gate is = omega arith
place_of-lt n _ is = omega arith

-- ---- the rows of checkpoints

pub is_save_row-decides : (n : ℕ) (row : SaveRow) → Decides (is_save_row n row) (IsSaveRow n row)
is_save_row-decides n _ = (λ test. grind (arith, nat_tests), λ is. grind (arith, nat_tests))

pub same_save_row : (n : ℕ) (a b : SaveRow) → IsSaveRow n a → IsSaveRow n b → save_place_of n a ≡ save_place_of n b → a ≡ b
unfolding save_place_of
same_save_row n (SaveOf x) (SaveOf y) a b same = let e : x ≡ y = omega arith in ap SaveOf e
same_save_row n (ImageOf x) (ImageOf y) a b same = let e : x ≡ y = omega arith in ap ImageOf e
same_save_row n _ _ a b same = absurd (omega arith)

pub save_place_of-ge : (n : ℕ) (row : SaveRow) → table_length n ≤ save_place_of n row
unfolding save_place_of
save_place_of-ge n (SaveOf page) = omega arith
save_place_of-ge n (ImageOf addr) = omega arith

pub save_place_of-lt : (l : Layout) (row : SaveRow) → l.checkpoints ≡ true → IsSaveRow l.pages row
    → save_place_of l.pages row < whole_length l
unfolding save_place_of
save_place_of-lt l (SaveOf page) room is = rw room (omega arith)
save_place_of-lt l (ImageOf addr) room is = rw room (omega arith)
