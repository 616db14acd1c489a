-- One instruction on the plain heap: its action, as far as the registers tell, and what that does to the heap and its mutator.
use Rattle.std.specs.Prelude.{ℕ, ◌+◌, List, [], ◌∷◌, ◌++◌, length, Option, Some, None, Result, Ok, Err, if◌then◌else◌, slice_index_or, slice_set}
use Rattle.std.specs.Option.{option_map_or}
use Rattle.plain_state.specs.declared.end.End.{End}
use Rattle.plain_state.specs.declared.end.End.TheVariants.{OutOfRange}
use Rattle.plain_state.specs.declared.kind.Kind.{Kind}
use Rattle.plain_state.specs.declared.value.Identity.{Identity}
use Rattle.plain_state.specs.declared.value.Value.{Value}
use Rattle.plain_state.specs.declared.value.Value.TheVariants.{Number, Reference}
use Rattle.plain_state.specs.State.{Record, Heap, Mutator, record_of, serial_of}
pub use Rattle.plain_state.specs.Cells.{is_cell}
pub use Rattle.plain_state.specs.Holding.{as_plain, may_hold}
pub use Rattle.plain_state.specs.Writing.{filled}
use Rattle.plain_state.specs.Writing.{stored, with_board, gained, took}
use Rattle.mutator_asm.specs.declared.instr.Instr.{Instr}
use Rattle.plain_heap.specs.declared.action.Action.{Action}
use Rattle.plain_heap.specs.declared.action.Action.TheVariants.{Sets, Jumps, Links, Prints, Makes, Measures, Loads, Stores, Compares, Gets, Puts, Swaps, Snaps}
use Rattle.plain_heap.specs.Action.{◌>>=◌, action, are_same, next_of, in_record}

-- what an instruction leaves: the heap, and the mutator that executed it
pub record After : Type 0 where
  pub heap : Heap
  pub mutator : Mutator

-- ---- what is read of the heap

-- the values of a record
abbrev pub values_of : Heap → Identity → List Value
values_of heap i = option_map_or (λ r. r.values) (record_of heap i) []

-- the words of a record that are stored: all, unless it is a cell
abbrev pub words_in : Record → List Value
words_in r = if is_cell r.kind then [] else r.values

-- value x of a record, where it has so many
abbrev pub value_in : Heap → Identity → ℕ → Result Value End
value_in heap i x = do
  x ← in_record (length (values_of heap i)) x
  Ok (slice_index_or (values_of heap i) x (Number 0))

-- word x of the board
abbrev pub board_word : Heap → ℕ → Value
board_word heap x = slice_index_or heap.board x (Number 0)

-- ---- what is written

-- the mutator goes on at an instruction
abbrev pub jumped : Mutator → ℕ → Mutator
jumped k target = record k { counter = target; executed = k.executed + 1 }

-- the mutator goes on with the next instruction
abbrev pub went_on : Mutator → Mutator
went_on k = jumped k (next_of k)

abbrev pub set_register : Mutator → ℕ → Value → Mutator
set_register k d v = record k { registers = slice_set k.registers d v }

-- a register takes a value, and the heap stays
abbrev pub loads : Heap → Mutator → ℕ → Value → After
loads heap k d v = record { heap = heap; mutator = went_on (set_register k d v) }

-- a value of the record with an identity is replaced, where the record is there and may hold it
abbrev pub store_in : Heap → Identity → Option Record → ℕ → Value → Result Heap End
store_in heap i None x v = Err OutOfRange
store_in heap i (Some r) x v = do
  v ← may_hold r.kind x v
  Ok (stored heap i r x v)

-- mutator m allocates a record of n values, each of them v, and register d refers to it
abbrev pub allocated : ℕ → Heap → Mutator → Kind → (d n : ℕ) → (v : Value) → After
allocated m heap k kind d n v = record {
  heap = gained heap m (filled kind n v);
  mutator = went_on (set_register k d (Reference (record { mutator = m; serial = serial_of heap m + 1 })));
}

-- ---- the instructions, executed by mutator m

-- what an action does
abbrev pub performed : ℕ → Heap → Mutator → Action → Result After End
performed m heap k (Sets d v) = Ok (loads heap k d v)
performed m heap k (Jumps target) = Ok (record { heap = heap; mutator = jumped k target })
performed m heap k (Links d target) = Ok (record { heap = heap; mutator = jumped (set_register k d (Number (next_of k))) target })
performed m heap k (Prints n) = Ok (record { heap = heap; mutator = went_on (record k { printed = k.printed ++ n ∷ [] }) })
performed m heap k (Makes kind d n v) = Ok (allocated m heap k kind d n v)
performed m heap k (Measures d i) = Ok (loads heap k d (Number (length (values_of heap i))))
performed m heap k (Loads d i x) = do
  v ← value_in heap i x
  Ok (loads heap k d v)
performed m heap k (Stores i x v) = do
  old ← value_in heap i x
  heap ← store_in heap i (record_of heap i) x v
  Ok (record { heap = heap; mutator = went_on k })
performed m heap k (Compares d i x expected new) = do
  found ← value_in heap i x
  later ← store_in heap i (record_of heap i) x new
  Ok (if are_same found expected then loads later k d (Number 1) else loads heap k d (Number 0))
performed m heap k (Gets d x) = Ok (loads heap k d (board_word heap x))
performed m heap k (Puts x v) = Ok (record { heap = with_board heap x v; mutator = went_on k })
performed m heap k (Swaps d x v) = Ok (loads (with_board heap x v) k d (board_word heap x))
performed m heap k Snaps = Ok (record { heap = took heap; mutator = went_on k })

unfoldable pub call : ℕ → Heap → Mutator → Instr → Result After End
call m heap k instr = do
  act ← action k instr
  performed m heap k act
