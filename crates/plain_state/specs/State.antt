-- The state of the plain machine.
use Rattle.std.specs.Prelude.{ℕ, ◌<◌, ◌≤◌, List, [], length, Option, None, slice_get, slice_index_or}
use Rattle.std.proofs.Common.{zero, suc}
use Rattle.plain_state.specs.declared.end.End.{End}
use Rattle.plain_state.specs.declared.kind.Kind.{Kind}
use Rattle.plain_state.specs.declared.sizes.TheConstants.{NUMBERS}
use Rattle.plain_state.specs.declared.value.Identity.{Identity}
use Rattle.plain_state.specs.declared.value.Value.{Value}
use Rattle.plain_state.specs.declared.value.Value.TheVariants.{Number, Reference}

-- a record: its kind, and its words in order
pub record Record : Type 0 where
  pub kind : Kind
  pub values : List Value

-- what a checkpoint keeps: the board and the records as they were when it began
pub record Snapped : Type 0 where
  pub board : List Value
  pub records : List (List Record)

-- The records of each mutator in the order of their serials, and the board. No record is ever
-- removed or moved, so the record with serial k of mutator m stands at place k - 1 of list m.
-- Beside them, how many checkpoints were begun, and the last of these; before the first it is empty.
pub record Heap : Type 0 where
  pub records : List (List Record)
  pub board : List Value
  pub snaps : ℕ
  pub snapped : Snapped

-- what a mutator is between two instructions
pub record Mutator : Type 0 where
  pub counter : ℕ
  pub registers : List Value
  pub printed : List ℕ
  pub executed : ℕ
  pub end : Option End

-- the heap, and the mutators by their numbers
pub record Plain : Type 0 where
  pub heap : Heap
  pub mutators : List Mutator

-- the checkpoint that is kept before the first one
abbrev pub none_snapped : Snapped
none_snapped = record { board = []; records = [] }

-- the records that a mutator has allocated
abbrev pub made_by : Heap → ℕ → List Record
made_by heap m = slice_index_or heap.records m []

-- the record with this serial among those of one mutator; serials count from 1
abbrev pub at_serial : List Record → ℕ → Option Record
at_serial records zero = None
at_serial records (suc n) = slice_get records n

-- the record of an identity
abbrev pub record_of : Heap → Identity → Option Record
record_of heap i = at_serial (made_by heap i.mutator) i.serial

-- how many records a mutator has allocated, which is the serial of its latest
abbrev pub serial_of : Heap → ℕ → ℕ
serial_of heap m = length (made_by heap m)

-- ---- what a state holds

-- the identity names a record that was allocated
pub record IsMade (heap : Heap) (i : Identity) : Type 0 where
  pub first : 1 ≤ i.serial
  pub last : i.serial ≤ serial_of heap i.mutator

-- a number, or a reference to a record that was allocated
abbrev pub IsValue : Heap → Value → Type 0
IsValue heap (Number n) = n < NUMBERS
IsValue heap (Reference i) = IsMade heap i
