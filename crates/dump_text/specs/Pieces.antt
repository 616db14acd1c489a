-- The pieces of a line, read from the front: what a piece says, and the bytes behind it, or nothing where the piece is wrong.
use Rattle.std.specs.Prelude.{ℕ, zero, suc, Bool, not, ◌&&◌, ◌||◌, nat_le, nat_lt, ◌==◌, if◌then◌else◌, List, [], ◌∷◌, length, take, drop, slice_index, Option, Some, None}
use Rattle.std.specs.Char.{is_ascii_digit}
use Rattle.std.specs.List.{list_all}
use Rattle.std.specs.Str.Parse.{digits_value}
use Rattle.heap_state.specs.Kept.{Kept}
use Rattle.plain_state.specs.declared.sizes.TheConstants.{REGISTERS}
use Rattle.dump_text.specs.declared.head.Head.{Head}
use Rattle.dump_text.specs.declared.kept.Kept.{Kept as ReadKept}
use Rattle.dump_text.specs.Text.{Counts, are_counts}

-- a reader of pieces
abbrev pub Piece : Type 0 → Type 0
Piece A = List ℕ → Option (A × List ℕ)

infixl 10 ◌>>=◌
abbrev pub ◌>>=◌ : {A B : Type 0} → Option A → (A → Option B) → Option B
(Some x) >>= f = f x
None >>= f = None

-- ---- words

-- a digit of a word: 0 to 9 or a to f
abbrev pub is_hex : ℕ → Bool
is_hex b = (nat_le 48 b && nat_le b 57) || (nat_le 97 b && nat_le b 102)

-- the byte that is wanted
abbrev pub byte_at : ℕ → List ℕ → Option (List ℕ)
byte_at wanted [] = None
byte_at wanted (b ∷ rest) = if b == wanted then Some rest else None

-- a word by its 16 digits
unfoldable pub word_at : Piece ℕ
word_at bytes =
    if nat_lt (length bytes) 16 then None else (if not (list_all is_hex (take 16 bytes)) then None else Some (digits_value 16 (take 16 bytes), drop 16 bytes))

-- a word, and the byte that is wanted behind it
unfoldable pub cell_at : ℕ → Piece ℕ
cell_at wanted bytes = do
  word ← word_at bytes
  rest ← byte_at wanted word.1
  Some (word.0, rest)

-- what stands behind a word that so many more of its line follow: a space, or the end of the line
abbrev pub behind : ℕ → ℕ
behind zero = 10
behind (suc n) = 32

-- a line of so many words
abbrev pub line_at : ℕ → Piece (List ℕ)
line_at zero bytes = Some ([], bytes)
line_at (suc n) bytes = do
  word ← cell_at (behind n) bytes
  words ← line_at n word.1
  Some (word.0 ∷ words.0, words.1)

-- the line of a mutator's registers
unfoldable pub registers_at : Piece (List ℕ)
registers_at bytes = line_at REGISTERS bytes

-- the line of what a worker keeps
unfoldable pub kept_read_at : Piece Kept
kept_read_at bytes = do
  header ← cell_at 32 bytes
  place ← cell_at 10 header.1
  Some (record { header = header.0; place = place.0 }, place.1)

-- what a worker keeps, as it was read
abbrev pub kept_view : ReadKept → Kept
kept_view k = record { header = k.header; place = k.place }

-- ---- the first line

-- how many decimal digits stand at the front
abbrev pub digit_count : List ℕ → ℕ
digit_count [] = 0
digit_count (b ∷ bytes) = if is_ascii_digit b then suc (digit_count bytes) else 0

-- a number in at most so many decimal digits, of which the first is 0 in 0 alone
unfoldable pub numeral_at : ℕ → Piece ℕ
numeral_at most bytes =
    let count = digit_count bytes in
    if (count == 0) || nat_lt most count || ((slice_index bytes 0 == 48) && nat_lt 1 count) then None else Some (digits_value 10 (take count bytes), drop count bytes)

-- a number in one to four digits of which the first isn't 0, and the byte that is wanted behind it
unfoldable pub number_at : ℕ → Piece ℕ
number_at wanted bytes = do
  number ← numeral_at 4 bytes
  if number.0 == 0 then None else (do
    rest ← byte_at wanted number.1
    Some (number.0, rest))

-- the word `dump` and a space
abbrev pub keyword_at : List ℕ → Option (List ℕ)
keyword_at bytes = do
  d ← byte_at 100 bytes
  u ← byte_at 117 d
  m ← byte_at 109 u
  p ← byte_at 112 m
  byte_at 32 p

-- the first line, with counts that a heap may have
unfoldable pub head_at : Piece Counts
head_at bytes = do
  rest ← keyword_at bytes
  pages ← number_at 32 rest
  mutators ← number_at 32 pages.1
  workers ← number_at 10 mutators.1
  if are_counts (record { pages = pages.0; mutators = mutators.0; workers = workers.0 }) then Some (record { pages = pages.0; mutators = mutators.0; workers = workers.0 }, workers.1) else None

-- the counts as they were read
abbrev pub head_view : Head → Counts
head_view h = record { pages = h.spaces.pages; mutators = h.mutators; workers = h.workers }
