-- What belongs to a checkpoint, and what is printed of it.
use Rattle.std.specs.Prelude.{◌≡◌, ◌⊎◌, ◌↔◌, ℕ, zero, suc, ◌<◌, true, List, [], ◌++◌, map, length, All, AllPairs, Contains, Option, Some, slice_get, slice_index_or, codes, decimal}
use Rattle.std.specs.List.{flat_map}
use Rattle.plain_state.specs.declared.kind.Kind.{Kind}
use Rattle.plain_state.specs.declared.kind.Kind.TheVariants.{Fields, Raw, Mixed, Weak}
use Rattle.plain_state.specs.declared.value.Identity.{Identity}
use Rattle.plain_state.specs.declared.value.Value.{Value}
use Rattle.plain_state.specs.declared.value.Value.TheVariants.{Number, Reference}
use Rattle.plain_state.specs.Layout.{is_field, word_of_value}
use Rattle.plain_state.specs.State.{Record, Snapped, at_serial}

-- the record of an identity, as it is kept
abbrev pub kept_record : Snapped → Identity → Option Record
kept_record kept i = at_serial (slice_index_or kept.records i.mutator []) i.serial

-- Reached is what a word of the kept board refers to, and what a field of a reached record refers to.
pub data ReachedFrom (kept : Snapped) : Identity → Type 0 where
  BoardRefers : (x : ℕ) (i : Identity) → slice_get kept.board x ≡ Some (Reference i) → ReachedFrom kept i
  FieldRefers : (i : Identity) (r : Record) (x : ℕ) (j : Identity) → ReachedFrom kept i → kept_record kept i ≡ Some r → is_field r.kind (word_of_value r.kind x) ≡ true
      → slice_get r.values x ≡ Some (Reference j) → ReachedFrom kept j

-- the first is a record of an earlier mutator, or an earlier record of the same one
abbrev pub IsListedBefore : Identity → Identity → Type 0
IsListedBefore i j = (i.mutator < j.mutator) ⊎ ((i.mutator ≡ j.mutator) × (i.serial < j.serial))

-- a record of a checkpoint, with its identity
pub record KeptRecord : Type 0 where
  pub identity : Identity
  pub content : Record

abbrev pub identities_of : List KeptRecord → List Identity
identities_of records = map (λ r. r.identity) records

-- a checkpoint: a board, and the records that belong to it
pub record Checkpoint : Type 0 where
  pub board : List Value
  pub records : List KeptRecord

-- The checkpoint of what is kept: its board, and exactly the records that are reached from it, as they are kept, by mutator and
-- serial, each once.
pub record IsCheckpoint (kept : Snapped) (c : Checkpoint) : Type 0 where
  pub board : c.board ≡ kept.board
  pub rising : AllPairs IsListedBefore (identities_of c.records)
  pub reached : All (ReachedFrom kept) (identities_of c.records)
  pub complete : (i : Identity) → ReachedFrom kept i → Contains (identities_of c.records) i
  pub as_kept : All (λ r. kept_record kept r.identity ≡ Some r.content) c.records

-- ---- its lines

abbrev pub identity_text : Identity → List ℕ
identity_text i = decimal i.mutator ++ codes "." ++ decimal i.serial

abbrev pub value_text : Value → List ℕ
value_text (Number n) = decimal n
value_text (Reference i) = identity_text i

-- values, each after a space
abbrev pub values_text : List Value → List ℕ
values_text values = flat_map (λ v. codes " " ++ value_text v) values

abbrev pub kind_text : Kind → List ℕ
kind_text Fields = codes "fields"
kind_text Raw = codes "raw"
kind_text (Mixed count) = codes "mixed " ++ decimal count
kind_text Weak = codes "weak"

-- A record: its identity, its kind, how many values it has, and these. The value of a cell may refer to a record that isn't reached.
abbrev pub record_line : KeptRecord → List ℕ
record_line r =
    identity_text r.identity ++ codes " " ++ kind_text r.content.kind ++ codes " " ++ decimal (length r.content.values)
    ++ codes ":" ++ values_text r.content.values ++ codes "\n"

abbrev pub board_line : List Value → List ℕ
board_line board = codes "board" ++ values_text board ++ codes "\n"

-- the line that begins a checkpoint, with its number
abbrev pub number_line : ℕ → List ℕ
number_line number = codes "checkpoint " ++ decimal number ++ codes "\n"

-- the line of the board, and one for each record
abbrev pub checkpoint_text : Checkpoint → List ℕ
checkpoint_text c = board_line c.board ++ flat_map record_line c.records

-- What is printed of the last checkpoint, by its number and what is kept of it. If none was begun, the number 0 is all.
abbrev pub checkpoint_lines : (number : ℕ) → Snapped → List ℕ → Type 0
checkpoint_lines zero kept bytes = bytes ≡ number_line 0
checkpoint_lines (suc n) kept bytes = (c : Checkpoint) × IsCheckpoint kept c × (bytes ≡ number_line (suc n) ++ checkpoint_text c)

-- ---- what holds of them

-- what is kept has one checkpoint
abbrev pub OneCheckpoint : Type 0
OneCheckpoint = (kept : Snapped) (a b : Checkpoint) → IsCheckpoint kept a → IsCheckpoint kept b → a ≡ b

-- and one text
abbrev pub OneText : Type 0
OneText = (number : ℕ) (kept : Snapped) (a b : List ℕ) → checkpoint_lines number kept a → checkpoint_lines number kept b → a ≡ b

-- two checkpoints keep one board, and the same records as far as the first one's board leads
pub record AgreeOnReached (kept other : Snapped) : Type 0 where
  pub board : other.board ≡ kept.board
  pub records : (i : Identity) → ReachedFrom kept i → kept_record other i ≡ kept_record kept i

-- their boards lead to the same records
abbrev pub SameIsReached : Type 0
SameIsReached = (kept other : Snapped) (i : Identity) → AgreeOnReached kept other → ReachedFrom kept i ↔ ReachedFrom other i

-- and the same is printed of both
abbrev pub SameIsPrinted : Type 0
SameIsPrinted = (number : ℕ) (kept other : Snapped) (bytes : List ℕ) → AgreeOnReached kept other → checkpoint_lines number kept bytes ↔ checkpoint_lines number other bytes
