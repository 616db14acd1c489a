-- The heap of the last checkpoint, as it is read from the words of a table.
use Rattle.std.specs.Prelude.{◌≡◌, ℕ, List, length, Option, Some, None, unwrap_or}
use Rattle.heap_words.specs.Decoded.{decode, number_in, pointer_in}
use Rattle.plain_state.specs.declared.value.Identity.{Identity}
use Rattle.plain_state.specs.declared.value.Value.{Value}
use Rattle.plain_state.specs.declared.value.Value.TheVariants.{Number, Reference}
use Rattle.space_map.specs.Table.{saving_length}
use Rattle.record_layout.specs.declared.header.Header.{Header}
use Rattle.record_layout.specs.Layout.{header_in}
use Rattle.space_map.specs.Spaces.{IsPageCount}
use Rattle.heap_state.specs.Memory.Table.{table_of}
use Rattle.heap_state.specs.Saving.Words.{saves_of, word_read}

-- ---- words

-- the word of an address, in the words of a table with n pages a space
unfoldable pub saved_word : (n : ℕ) → List ℕ → (address : ℕ) → ℕ
saved_word n words address = word_read (saves_of n words) (table_of n words).heap address

-- the words are a table with room for checkpoints, with n pages a space
pub record AreWholeTable (n : ℕ) (words : List ℕ) : Type 0 where
  pub count : IsPageCount n
  pub length : length words ≡ saving_length n

-- ---- values

-- the identity that a header has
abbrev pub identity_by : Option Header → Identity
identity_by (Some h) = record { mutator = h.mutator; serial = h.serial }
identity_by None = record { mutator = 0; serial = 0 }

-- the identity of the record at an address
abbrev pub identity_there : (heap : ℕ → ℕ) → (address : ℕ) → Identity
identity_there heap address = identity_by (header_in (decode (heap address)))

-- what a word says that points there, or else is this number
abbrev pub value_by : (heap : ℕ → ℕ) → (pointer number : Option ℕ) → Value
value_by heap (Some address) number = Reference (identity_there heap address)
value_by heap None number = Number (unwrap_or number 0)

-- the value that the word of an address stands for as a field
abbrev pub field_value : (heap : ℕ → ℕ) → (address : ℕ) → Value
field_value heap address = value_by heap (pointer_in (decode (heap address))) (number_in (decode (heap address)))
