-- The records to which the board of a heap leads, as they are read from its words.
use Rattle.std.specs.Prelude.{◌≡◌, ℕ, ◌+◌, ◌<◌, ◌≤◌, ◌==◌, List, Some, All, Contains, count_by, Bool}
use Rattle.std.specs.List.Sorted.{IsSortedBy}
use Rattle.std.specs.Ordering.{is_lt, nat_cmp, ordering_then}
use Rattle.heap_words.specs.Decoded.{PointerWord, decode}
use Rattle.plain_state.specs.declared.sizes.TheConstants.{BOARD_WORDS}
use Rattle.checkpoint_text.specs.declared.saved_record.SavedRecord.{SavedRecord}
use Rattle.checkpoint_text.specs.Records.{record_there, first_value, field_count}

-- the word refers to this record
abbrev pub RefersTo : (heap : ℕ → ℕ) → (word : ℕ) → SavedRecord → Type 0
RefersTo heap word r = (address : ℕ) × (decode word ≡ PointerWord address) × (record_there heap address ≡ Some r)

-- a word of the board refers to it
pub record IsOnBoard (heap : ℕ → ℕ) (board : ℕ) (r : SavedRecord) : Type 0 where
  pub x : ℕ
  pub within : x < BOARD_WORDS
  pub refers : RefersTo heap (heap (board + x)) r

-- a field of a record refers to it
pub record IsInField (heap : ℕ → ℕ) (from r : SavedRecord) : Type 0 where
  pub x : ℕ
  pub within : x < field_count from
  pub refers : RefersTo heap (heap (first_value from + x)) r

-- Reached is what the board refers to, and what a field of a reached record refers to.
pub data Reaches (heap : ℕ → ℕ) (board : ℕ) : SavedRecord → Type 0 where
  FromBoard : (r : SavedRecord) → IsOnBoard heap board r → Reaches heap board r
  FromField : (from r : SavedRecord) → Reaches heap board from → IsInField heap from r → Reaches heap board r

-- the record stands where it says
abbrev pub IsThere : (heap : ℕ → ℕ) → SavedRecord → Type 0
IsThere heap r = record_there heap r.address ≡ Some r

-- how many of the records stand at an address
abbrev pub times_listed : (address : ℕ) → List SavedRecord → ℕ
times_listed address records = count_by (λ r. r.address == address) records

-- These are the records to which the board leads, each once.
pub record AreReached (heap : ℕ → ℕ) (board : ℕ) (records : List SavedRecord) : Type 0 where
  pub reached : All (Reaches heap board) records
  pub once : (address : ℕ) → times_listed address records ≤ 1
  pub from_board : (r : SavedRecord) → IsOnBoard heap board r → Contains records r
  pub from_fields : (from r : SavedRecord) → Contains records from → IsInField heap from r → Contains records r

-- the first has the smaller mutator, or the same with the smaller serial
abbrev pub is_before : SavedRecord → SavedRecord → Bool
is_before r s = is_lt (ordering_then (nat_cmp r.identity.mutator s.identity.mutator) (nat_cmp r.identity.serial s.identity.serial))

-- the same by mutator and serial
pub record AreListed (heap : ℕ → ℕ) (board : ℕ) (records : List SavedRecord) : Type 0 where
  pub reached : AreReached heap board records
  pub sorted : IsSortedBy is_before records
