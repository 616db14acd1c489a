-- The concordance of a text.
use Rattle.std.specs.Prelude.{◌≡◌, ◌⊎◌, ℕ, ◌+◌, ◌*◌, ◌<◌, List, [], ◌∷◌, ◌++◌, map, length, codes, decimal, Vec}
use Rattle.std.specs.List.{AllByRecursion, flat_map, join_by, sum_by}
use Rattle.std.specs.BTreeMap.{BTreeMap}
use Rattle.std.specs.List.Sorted.{IsStrictlySortedBy}
use Rattle.std.specs.Cmp.Lexicographic.{slice_cmp}
use Rattle.std.specs.Ordering.{match_ordering, nat_cmp}
use Rattle.concordance_text.specs.Words.{Mention, mentions_of}

-- a word, and the numbers of the lines in which it stands
pub record WordRow : Type 0 where
  pub word : List ℕ
  pub lines : List ℕ

abbrev pub row : List ℕ → List ℕ → WordRow
row word lines = record { word = word; lines = lines }

-- it is an element of the list
abbrev pub IsElementOf : {A : Type 0} → A → List A → Type 0
IsElementOf x [] = ⊥
IsElementOf x (y ∷ ys) = (x ≡ y) ⊎ IsElementOf x ys

-- each word is before those after it, in the order of bytes
abbrev pub AreInOrder : List WordRow → Type 0
AreInOrder rows = IsStrictlySortedBy (slice_cmp nat_cmp) (map (λ (r : WordRow). r.word) rows)

-- each number is below those after it
abbrev pub IsRising : List ℕ → Type 0
IsRising lines = IsStrictlySortedBy nat_cmp lines

-- a row has the word and the line
abbrev pub TellsMention : List WordRow → Mention → Type 0
TellsMention [] m = ⊥
TellsMention (r ∷ rs) m = ((m.word ≡ r.word) × IsElementOf m.line r.lines) ⊎ TellsMention rs m

-- The rows for words in their lines: each word once, in the order of bytes, with the lines in which it stands and no others, each once and
-- rising.
pub record AreRowsOf (mentions : List Mention) (rows : List WordRow) : Type 0 where
  pub ordered : AreInOrder rows
  pub rising : AllByRecursion (λ (r : WordRow). IsRising r.lines) rows
  pub some : AllByRecursion (λ (r : WordRow). 0 < length r.lines) rows
  pub all : (m : Mention) → IsElementOf m mentions → TellsMention rows m
  pub only : (m : Mention) → TellsMention rows m → IsElementOf m mentions

-- a row as it is told
abbrev pub row_text : WordRow → List ℕ
row_text r = r.word ++ codes ": " ++ join_by decimal (codes ", ") r.lines ++ codes "\n"

-- what is told is the text's concordance
pub record IsConcordanceOf (text told : List ℕ) : Type 0 where
  pub rows : List WordRow
  pub are : AreRowsOf (mentions_of text) rows
  pub told_is : told ≡ flat_map row_text rows

-- ---- how much of a heap it fills

-- the heap words for a row: a record of the letters and an entry of five fields, and for each line a record of two fields
abbrev pub heap_words_for : WordRow → ℕ
heap_words_for r = length r.word + 7 + 3 * length r.lines

abbrev pub need : List WordRow → ℕ
need rows = sum_by heap_words_for rows

-- ---- rows as they are kept, in a map by the order of bytes

-- the rows of entries, each of a word and its lines
abbrev pub rows_of_entries : {Y : Type 0} → List (Vec ℕ Y × Vec ℕ Y) → List WordRow
rows_of_entries [] = []
rows_of_entries (e ∷ es) = row e.0.items e.1.items ∷ rows_of_entries es

abbrev pub rows_of : {Y : Type 0} → BTreeMap (Vec ℕ Y) (Vec ℕ Y) → List WordRow
rows_of words = rows_of_entries words.entries

-- rows with more lines of a word, behind those that it has
abbrev pub with_lines : List ℕ → List ℕ → List WordRow → List WordRow
with_lines word lines [] = row word lines ∷ []
with_lines word lines (r ∷ rs) = match_ordering (slice_cmp nat_cmp word r.word) (row word lines ∷ r ∷ rs) (row r.word (r.lines ++ lines) ∷ rs) (r ∷ with_lines word lines rs)
