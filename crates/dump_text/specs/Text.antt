-- A dump and its text.
use Rattle.std.specs.Prelude.{ℕ, ◌+◌, ◌-◌, ◌^◌, ◌<◌, ◌≡◌, Bool, false, ◌&&◌, IsTrue, nat_le, List, [], ◌∷◌, ◌++◌, length, codes, decimal, replicate}
use Rattle.std.specs.Fmt.{digits}
use Rattle.std.specs.List.{flat_map, AllByRecursion}
use Rattle.heap_state.specs.Kept.{Kept}
use Rattle.plain_state.specs.declared.sizes.TheConstants.{REGISTERS}
use Rattle.space_map.specs.Table.{table_length}
use Rattle.space_map.specs.declared.spaces.TheConstants.{MOST_MUTATORS, MOST_SCANNERS}
use Rattle.space_map.specs.Spaces.{is_size}

-- the pages of a space, the registers of each mutator, what each worker keeps, and the words of the table
pub record Dumped : Type 0 where
  pub pages : ℕ
  pub registers : List (List ℕ)
  pub kept : List Kept
  pub words : List ℕ

-- ---- the text

-- a word by its 16 hexadecimal digits
abbrev pub word_text : ℕ → List ℕ
word_text word = replicate (16 - length (digits 16 false word)) 48 ++ digits 16 false word

-- words in a line, with a space between two
abbrev pub words_line : List ℕ → List ℕ
words_line [] = codes "\n"
words_line (word ∷ words) = word_text word ++ flat_map (λ w. codes " " ++ word_text w) words ++ codes "\n"

-- the first line: how many pages a space has, how many mutators there are, and how many workers
abbrev pub dump_head : (pages mutators workers : ℕ) → List ℕ
dump_head pages mutators workers = codes "dump " ++ decimal pages ++ codes " " ++ decimal mutators ++ codes " " ++ decimal workers ++ codes "\n"

-- the words of the table, a line each
abbrev pub table_lines : List ℕ → List ℕ
table_lines words = flat_map (λ word. word_text word ++ codes "\n") words

-- what a worker keeps: a header, and a place
abbrev pub kept_line : Kept → List ℕ
kept_line k = words_line (k.header ∷ k.place ∷ [])

-- the first line, the registers of each mutator, what each worker keeps, and the table
abbrev pub dump_text : Dumped → List ℕ
dump_text d =
    dump_head d.pages (length d.registers) (length d.kept) ++ flat_map words_line d.registers ++ flat_map kept_line d.kept ++ table_lines d.words

-- ---- what has a text

-- the counts of the first line
pub record Counts : Type 0 where
  pub pages : ℕ
  pub mutators : ℕ
  pub workers : ℕ

abbrev pub counts_of : Dumped → Counts
counts_of d = record { pages = d.pages; mutators = length d.registers; workers = length d.kept }

-- so many of the workers may be mutators, the others being scanners
abbrev pub are_workers : (mutators workers : ℕ) → Bool
are_workers mutators workers = nat_le 1 mutators && nat_le mutators MOST_MUTATORS && nat_le mutators workers && nat_le workers (mutators + MOST_SCANNERS)

abbrev pub are_counts : Counts → Bool
are_counts c = is_size c.pages && are_workers c.mutators c.workers

-- the first line of the bytes tells these counts, and a heap may have them
pub record BeginsDump (bytes : List ℕ) (c : Counts) : Type 0 where
  pub counts : IsTrue (are_counts c)
  pub rest : List ℕ
  pub line : bytes ≡ dump_head c.pages c.mutators c.workers ++ rest

abbrev pub IsWord : ℕ → Type 0
IsWord word = word < 2 ^ 64

-- a word for each register
abbrev pub AreRegisters : List ℕ → Type 0
AreRegisters words = (length words ≡ REGISTERS) × AllByRecursion IsWord words

abbrev pub AreKept : Kept → Type 0
AreKept k = IsWord k.header × IsWord k.place

-- a dump: its counts are those of a heap, each number is a word, and the table has the length that the pages ask
pub record IsDump (d : Dumped) : Type 0 where
  pub counts : IsTrue (are_counts (counts_of d))
  pub registers : AllByRecursion AreRegisters d.registers
  pub kept : AllByRecursion AreKept d.kept
  pub words : AllByRecursion IsWord d.words
  pub length : length d.words ≡ table_length d.pages

-- dumps that have one text are the same
abbrev pub TellsOneDump : Type 0
TellsOneDump = (a b : Dumped) → IsDump a → IsDump b → dump_text a ≡ dump_text b → a ≡ b
