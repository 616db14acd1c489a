-- What is looked at of a record, and the owners of identities.
use Rattle.std.specs.Prelude.{◌≡◌, ℕ, ◌+◌, ◌*◌, ◌^◌, ◌<◌, ◌≤◌, ◌⊎◌, true, List, Contains, Some, nat_eq, slice_get}
use Rattle.std.specs.HashMap.{get}
use Rattle.heap_words.specs.Decoded.{HeaderWord}
use Rattle.plain_state.specs.declared.kind.Kind.{Kind}
use Rattle.plain_state.specs.declared.kind.Kind.TheVariants.{Mixed, Weak}
use Rattle.plain_state.specs.Cells.{value_of_cell}
use Rattle.plain_state.specs.Layout.{is_field, is_raw, size_of, word_of_value}
use Rattle.plain_state.specs.State as plain
use Rattle.plain_state.specs.declared.value.Identity.{Identity}
use Rattle.plain_state.specs.declared.value.Value.{Value}
use Rattle.plain_state.specs.declared.value.Value.TheVariants.{Number}
use Rattle.heap_state.specs.Invariant.Ghost.{header_kind}
use Rattle.heap_state.specs.Meaning.Denotes.{named_by}
use Rattle.heap_state.specs.Meaning.Dump.{Dump}
use Rattle.heap_state.specs.Meaning.Represents.{HeadShows, IsEmptied, IsInHeap, LeadsToRecord, WordShows, denoted_in_dump, own_header}
use Rattle.heap_state.specs.Memory.Walk.{Walked}
use Rattle.heap_audit.specs.Firsts.{TellsFirst}
use Rattle.heap_audit.specs.declared.records.owners.Owners.{Owners}

-- the record shows what it should by this word: by its first word, or by another one that it has
pub record WordOfRecordShows (d : Dump) (p : plain.Plain) (w : Walked) (i : ℕ) : Type 0 where
  pub head : i ≡ 0 → HeadShows d p w
  pub word : 0 < i → i < w.size → WordShows d p w i

-- a count of fields is a number that a word can hold
abbrev pub IsCount : Kind → Type 0
IsCount (Mixed count) = count < 2 ^ 16
IsCount other = Unit {0}

-- Value x of the plain record, if it has as many, shows in this word: a field denotes the value, and leads to a record if it is a pointer;
-- a plain number is the value.
pub record ValueShows (d : Dump) (r : plain.Record) (x word : ℕ) : Type 0 where
  pub field : (v : Value) → slice_get r.values x ≡ Some v → is_field r.kind (word_of_value r.kind x) ≡ true → (denoted_in_dump d word ≡ Some v) × LeadsToRecord d word
  pub number : (v : Value) → slice_get r.values x ≡ Some v → is_raw r.kind (word_of_value r.kind x) ≡ true → Number word ≡ v

-- If the plain record is a cell, word 1 of the record leads to a record if it is a pointer, and it denotes the cell's value, unless the walk
-- over the chain of copied cells may have emptied the record.
pub record TargetShows (d : Dump) (r : plain.Record) (w : Walked) : Type 0 where
  pub leads : r.kind ≡ Weak → LeadsToRecord d (d.table.heap (w.at + 1))
  pub shows : (v : Value) → value_of_cell r ≡ Some v → (denoted_in_dump d (d.table.heap (w.at + 1)) ≡ Some v) ⊎ IsEmptied d w v

-- the record's own header names this plain record, and has its kind and its length
pub record IsShownByHead (d : Dump) (p : plain.Plain) (w : Walked) (r : plain.Record) : Type 0 where
  pub len : ℕ
  pub serial : ℕ
  pub mutator : ℕ
  pub header : own_header d w.at ≡ HeaderWord (header_kind r.kind) len serial mutator
  pub names : plain.record_of p.heap (record { mutator = mutator; serial = serial }) ≡ Some r
  pub size : size_of r ≡ w.size
  pub short : w.size ≤ 4096

-- ---- identities

-- a number for each identity
abbrev pub key_of : Identity → ℕ
key_of i = i.mutator * 2 ^ 40 + i.serial

-- none of these records begins at the address and has a header of its own with the identity
abbrev pub NoneOwned : Dump → List Walked → Identity → ℕ → Type 0
NoneOwned d ws i a = (w : Walked) → Contains ws w → w.at ≡ a → named_by (own_header d w.at) ≡ Some i → ⊥

-- by identity the least address at which a record in the heap has a header of its own with it
abbrev pub OwnersOfHeap : Dump → Owners → Type 0
OwnersOfHeap d owners = (i : Identity) → i.serial < 2 ^ 40
    → TellsFirst (λ a. (w : Walked) → IsInHeap d w → w.at ≡ a → named_by (own_header d w.at) ≡ Some i → ⊥) (get nat_eq owners.first (key_of i))
