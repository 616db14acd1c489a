-- The plain heap after a word was stored, a record was allocated, or a checkpoint was begun.
use Rattle.std.specs.Prelude.{ℕ, ◌+◌, ◌-◌, ◌==◌, List, [], ◌∷◌, ◌++◌, if◌then◌else◌, replicate, slice_set}
use Rattle.plain_state.specs.declared.value.Identity.{Identity}
use Rattle.plain_state.specs.declared.kind.Kind.{Kind}
use Rattle.plain_state.specs.declared.sizes.TheConstants.{MOST_CHECKPOINTS}
use Rattle.plain_state.specs.declared.value.Value.{Value}
use Rattle.plain_state.specs.declared.value.Value.TheVariants.{Number}
use Rattle.plain_state.specs.State.{Record, Snapped, Heap, Plain, made_by}

abbrev pub with_value : Record → ℕ → Value → Record
with_value r x v = record r { values = slice_set r.values x v }

abbrev pub with_records : Heap → ℕ → List Record → Heap
with_records heap m records = record heap { records = slice_set heap.records m records }

abbrev pub with_heap : Plain → Heap → Plain
with_heap p heap = record p { heap = heap }

-- word x of the record r with identity i takes a value
abbrev pub stored : Heap → Identity → Record → ℕ → Value → Heap
stored heap i r x v = with_records heap i.mutator (slice_set (made_by heap i.mutator) (i.serial - 1) (with_value r x v))

-- word x of the board takes a value
abbrev pub with_board : Heap → ℕ → Value → Heap
with_board heap x v = record heap { board = slice_set heap.board x v }

-- a record of this kind with n values, each of them this
abbrev pub filled : Kind → ℕ → Value → Record
filled kind n v = record { kind = kind; values = replicate n v }

-- each the number 0
abbrev pub zeros : Kind → ℕ → Record
zeros kind n = filled kind n (Number 0)

-- mutator m has one more record
abbrev pub gained : Heap → ℕ → Record → Heap
gained heap m r = with_records heap m (made_by heap m ++ r ∷ [])

-- the board and the records as they are now
abbrev pub snapped_now : Heap → Snapped
snapped_now heap = record { board = heap.board; records = heap.records }

-- One checkpoint more is begun, and the board and the records are kept. Once there have been the most, nothing changes.
abbrev pub took : Heap → Heap
took heap = record heap {
  snaps = if heap.snaps == MOST_CHECKPOINTS then heap.snaps else heap.snaps + 1;
  snapped = if heap.snaps == MOST_CHECKPOINTS then heap.snapped else snapped_now heap;
}
