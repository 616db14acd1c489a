-- The words that the scan of a page looks at, by the records that lie on the page.
use Rattle.std.specs.Prelude.{ℕ, zero, suc, ◌+◌, ◌<◌, ◌≤◌}
use Rattle.heap_words.specs.Decoded.{Decoded, HeaderWord, decode}
use Rattle.space_map.specs.Spaces.{first_word}
use Rattle.heap_state.specs.Memory.FieldSpan.{first_field, fields_end}
use Rattle.heap_state.specs.Invariant.Ghost.{said_kind}
use Rattle.heap_state.specs.Kept.{size_said}
use Rattle.page_scan.specs.Taken.{board_words}

-- the number of words of a record up to its fields, by its header and the word behind that; 0 where the first is no header
abbrev pub first_said : Decoded → (next : ℕ) → ℕ
first_said (HeaderWord kind len serial mutator) next = first_field (said_kind kind next)
first_said _ next = 0

-- and up to the end of its fields
abbrev pub fields_said : Decoded → (next : ℕ) → ℕ
fields_said (HeaderWord kind len serial mutator) next = fields_end (said_kind kind next) (len + 1)
fields_said _ next = 0

-- where the record of this number begins, of those that lie packed from an address on
unfoldable pub record_begins : (heap : ℕ → ℕ) → ℕ → ℕ → ℕ
record_begins heap from zero = from
record_begins heap from (suc n) = record_begins heap from n + size_said (decode (heap (record_begins heap from n)))

-- the word is a field of a record that lies below FRONT
abbrev pub IsFieldBelow : (heap : ℕ → ℕ) (from front : ℕ) → ℕ → Type 0
IsFieldBelow heap from front x =
    (n : ℕ) × (record_begins heap from n < front)
    × (record_begins heap from n + first_said (decode (heap (record_begins heap from n))) (heap (record_begins heap from n + 1)) ≤ x)
    × (x < record_begins heap from n + fields_said (decode (heap (record_begins heap from n))) (heap (record_begins heap from n + 1)))

-- the word is such a field, on this page
abbrev pub IsFieldOn : (page : ℕ) (heap : ℕ → ℕ) (from front : ℕ) → ℕ → Type 0
IsFieldOn page heap from front x = IsFieldBelow heap from front x × (first_word page ≤ x) × (x < first_word (page + 1))

-- the word is one of the board
abbrev pub IsOnBoard : (page : ℕ) → ℕ → Type 0
IsOnBoard page x = (first_word page ≤ x) × (x < first_word page + board_words)
