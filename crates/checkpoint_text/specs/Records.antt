-- The records of the last checkpoint, as they are read from its heap.
use Rattle.std.specs.Prelude.{ℕ, zero, suc, ◌+◌, ◌-◌, ◌∷◌, [], ◌++◌, List, Option, Some, None, min, nat_lt, unwrap_or, if◌then◌else◌}
use Rattle.heap_words.specs.declared.kind.Kind.{Kind}
use Rattle.heap_words.specs.declared.kind.Kind.TheVariants.{Fields, Raw, Mixed, Weak}
use Rattle.heap_words.specs.Decoded.{decode, number_in}
use Rattle.plain_state.specs.declared.kind.Kind.{Kind as PlainKind}
use Rattle.plain_state.specs.declared.kind.Kind.TheVariants as plain
use Rattle.plain_state.specs.declared.value.Value.{Value}
use Rattle.plain_state.specs.declared.value.Value.TheVariants.{Number}
use Rattle.record_layout.specs.declared.header.Header.{Header}
use Rattle.record_layout.specs.Layout.{header_in}
use Rattle.plain_heap.specs.Checkpoints.Checkpoint.{KeptRecord}
use Rattle.checkpoint_text.specs.declared.saved_record.SavedRecord.{SavedRecord}
use Rattle.checkpoint_text.specs.Heap.{identity_by, field_value}

-- ---- a record

-- how many words stand before the first value of a record
abbrev pub words_before : Kind → ℕ
words_before Fields = 1
words_before Raw = 1
words_before Mixed = 2
words_before Weak = 1

-- and how many behind the last one
abbrev pub words_after : Kind → ℕ
words_after Fields = 0
words_after Raw = 0
words_after Mixed = 0
words_after Weak = 1

-- how many of a record's values, from the first, are fields, by its values and its word 1
abbrev pub fields_by : Kind → (len next : ℕ) → ℕ
fields_by Fields len next = len
fields_by Raw len next = 0
fields_by Mixed len next = unwrap_or (number_in (decode next)) 0
fields_by Weak len next = 0

-- the record at an address with this header and this word 1
abbrev pub record_with : (address next : ℕ) → Header → SavedRecord
record_with address next h = record {
  address = address;
  identity = identity_by (Some h);
  kind = h.kind;
  fields = fields_by h.kind (h.len + 1 - (words_before h.kind + words_after h.kind)) next;
  len = h.len + 1 - (words_before h.kind + words_after h.kind);
}

abbrev pub record_by : (address next : ℕ) → Option Header → Option SavedRecord
record_by address next (Some h) = Some (record_with address next h)
record_by address next None = None

-- the record that stands at an address, if one does
abbrev pub record_there : (heap : ℕ → ℕ) → (address : ℕ) → Option SavedRecord
record_there heap address = record_by address (heap (address + 1)) (header_in (decode (heap address)))

-- the address of its first value
abbrev pub first_value : SavedRecord → ℕ
first_value r = r.address + words_before r.kind

-- how many of its words are fields
abbrev pub field_count : SavedRecord → ℕ
field_count r = min r.fields r.len

-- ---- its values

-- how many of a record's values, from the first, a word denotes as in a field: those in its fields, or a cell's target
abbrev pub denoted_by : Kind → (fields : ℕ) → ℕ
denoted_by Fields fields = fields
denoted_by Raw fields = fields
denoted_by Mixed fields = fields
denoted_by Weak fields = 1

abbrev pub denoted_count : SavedRecord → ℕ
denoted_count r = denoted_by r.kind r.fields

-- the value at an address, which a word denotes as in a field, or of a plain number
abbrev pub value_read : (heap : ℕ → ℕ) → (address x fields : ℕ) → Value
value_read heap address x fields = if nat_lt x fields then field_value heap address else Number (heap address)

-- so many values from an address on, the first of which words denote
abbrev pub values_read : (heap : ℕ → ℕ) → (first fields count : ℕ) → List Value
values_read heap first fields zero = []
values_read heap first fields (suc x) = values_read heap first fields x ++ value_read heap (first + x) x fields ∷ []

-- a kind, by how many fields a mixed record has
abbrev pub kind_with : Kind → (fields : ℕ) → PlainKind
kind_with Fields fields = plain.Fields
kind_with Raw fields = plain.Raw
kind_with Mixed fields = plain.Mixed fields
kind_with Weak fields = plain.Weak

-- the record as it is printed
abbrev pub content_of : (heap : ℕ → ℕ) → SavedRecord → KeptRecord
content_of heap r = record {
  identity = r.identity;
  content = record { kind = kind_with r.kind r.fields; values = values_read heap (first_value r) (denoted_count r) r.len };
}
