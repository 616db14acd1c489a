-- The records that are met from the board on: each is visited once, by its address.
use Rattle.std.specs.Prelude.{ℕ, zero, suc, ◌+◌, Bool, true, false, not, List, [], ◌∷◌, ◌++◌, replicate, Option, Some, None, slice_index_or, slice_set, if◌then◌else◌}
use Rattle.heap_words.specs.Decoded.{decode, pointer_in}
use Rattle.checkpoint_text.specs.declared.saved_record.SavedRecord.{SavedRecord}
use Rattle.checkpoint_text.specs.Records.{record_there}

-- by address whether a record was met there, and the records that were met, in their order
pub record Visited : Type 0 where
  pub visited : List Bool
  pub records : List SavedRecord

-- an address of the heap where no record was met
abbrev pub is_new : List Bool → (address : ℕ) → Bool
is_new visited address = not (slice_index_or visited address true)

abbrev pub with_record : Visited → SavedRecord → Visited
with_record m r = record { visited = slice_set m.visited r.address true; records = m.records ++ r ∷ [] }

-- a record is added if it is new
abbrev pub added : Visited → Option SavedRecord → Visited
added m None = m
added m (Some r) = if is_new m.visited r.address then with_record m r else m

abbrev pub met_at : (heap : ℕ → ℕ) → Visited → (pointer : Option ℕ) → Visited
met_at heap m None = m
met_at heap m (Some address) = added m (record_there heap address)

-- after a word was met: the record to which it refers is added
unfoldable pub met : (heap : ℕ → ℕ) → (word : ℕ) → Visited → Visited
met heap word m = met_at heap m (pointer_in (decode word))

-- after so many words from an address on were met
abbrev pub met_from : (heap : ℕ → ℕ) → (first count : ℕ) → Visited → Visited
met_from heap first zero m = m
met_from heap first (suc x) m = met heap (heap (first + x)) (met_from heap first x m)

-- nothing was met, in a heap of so many words
abbrev pub unvisited : (words : ℕ) → Visited
unvisited words = record { visited = replicate words false; records = [] }
