-- What a mutator sees: its registers and the records, in the plain state after the history that it has seen.
use Rattle.std.specs.Prelude.{◌≡◌, ℕ, ◌-◌, length, take, Option, Some, None, slice_index_or}
use Rattle.plain_state.specs.declared.value.Value.{Value}
use Rattle.plain_state.specs.declared.value.Value.TheVariants.{Number, Reference}
use Rattle.plain_state.specs.State.{Heap, Mutator}
use Rattle.plain_heap.specs.Action.{register}
use Rattle.plain_heap.specs.Call.{values_of}
use Rattle.plain_heap.specs.Order.{fresh}
use Rattle.gc_worker.specs.History.Legal.{after_all}
use Rattle.ael_threads.specs.Histories.{first_plain}
use Rattle.ael_threads.specs.Seats.{Seated, first_number, plain_after_seen}
use Rattle.ael_runtime.specs.declared.root.Root.{Root}
use Rattle.ael_runtime.specs.declared.root.Root.TheVariants.{R0, R1, R2, R3, R4}

-- the number of its mutator
abbrev pub number : Seated → ℕ
number s = first_number s.knows.hands

-- the records and the board
unfoldable pub seen_heap : Seated → Heap
seen_heap s = (plain_after_seen s.knows).heap

-- the mutator itself
unfoldable pub seen_mutator : Seated → Mutator
seen_mutator s = slice_index_or (plain_after_seen s.knows).mutators (number s) fresh

-- the records and the board just before the latest entry of that history
unfoldable pub heap_before : Seated → Heap
heap_before s = (after_all (first_plain s.knows.plan) (take (length s.knows.seen - 1) s.knows.seen)).heap

-- the value in a register
abbrev pub held : Seated → ℕ → Value
held s r = register (seen_mutator s) r

-- the number of a root's register
abbrev pub root_register : Root → ℕ
root_register R0 = 0
root_register R1 = 1
root_register R2 = 2
root_register R3 = 3
root_register R4 = 4

-- ---- values

abbrev pub value_number : Value → Option ℕ
value_number (Number n) = Some n
value_number (Reference i) = None

-- how many words the record has to which a value leads; a number leads to none
abbrev pub len_of : Heap → Value → ℕ
len_of heap (Number n) = 0
len_of heap (Reference i) = length (values_of heap i)

-- a word of that record
abbrev pub record_word : Heap → Value → (at : ℕ) → Value
record_word heap (Number n) at = Number 0
record_word heap (Reference i) at = slice_index_or (values_of heap i) at (Number 0)

-- ---- what stays

-- all is as it was
pub record SeesSame (a b : Seated) : Type 0 where
  pub heap : seen_heap b ≡ seen_heap a
  pub mutator : seen_mutator b ≡ seen_mutator a
  pub number : number b ≡ number a
  pub end : b.worker.account.end ≡ a.worker.account.end
