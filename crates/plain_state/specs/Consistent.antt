-- What each state is like that a program comes to on the plain machine.
use Rattle.std.specs.Prelude.{◌≡◌, ℕ, ◌<◌, ◌≤◌, true, length, Some, slice_get, All}
use Rattle.plain_state.specs.declared.sizes.TheConstants.{NUMBERS, REGISTERS, MOST_PRINTED, LONGEST_RECORD, BOARD_WORDS}
use Rattle.plain_state.specs.declared.value.Value.{Value}
use Rattle.plain_state.specs.declared.value.Value.TheVariants.{Number, Reference}
use Rattle.plain_state.specs.Layout.{is_raw, word_of_value}
use Rattle.plain_state.specs.State.{Record, Heap, Mutator, Plain, IsValue}

-- a number of the language, and no reference
abbrev pub IsNumber : Value → Type 0
IsNumber (Number n) = n < NUMBERS
IsNumber (Reference i) = ⊥

-- a record is not too long, refers to records that were allocated, and has numbers in its raw words
pub record IsRecord (heap : Heap) (r : Record) : Type 0 where
  pub short : length r.values ≤ LONGEST_RECORD
  pub values : All (IsValue heap) r.values
  pub raw : (x : ℕ) (v : Value) → slice_get r.values x ≡ Some v → is_raw r.kind (word_of_value r.kind x) ≡ true → IsNumber v

-- the board has all its words, and these and each record refer to records that were allocated
pub record IsHeap (heap : Heap) : Type 0 where
  pub board_words : length heap.board ≡ BOARD_WORDS
  pub board : All (IsValue heap) heap.board
  pub records : All (All (IsRecord heap)) heap.records

-- a mutator has all its registers, refers to records that were allocated, and printed not too many numbers
pub record IsMutator (heap : Heap) (k : Mutator) : Type 0 where
  pub counter : k.counter < NUMBERS
  pub register_count : length k.registers ≡ REGISTERS
  pub registers : All (IsValue heap) k.registers
  pub few_printed : length k.printed ≤ MOST_PRINTED
  pub printed : All (λ n. n < NUMBERS) k.printed

-- the heap is one, and each mutator, which has its list of records
pub record IsConsistent (s : Plain) : Type 0 where
  pub heap : IsHeap s.heap
  pub mutators : All (IsMutator s.heap) s.mutators
  pub as_many : length s.heap.records ≡ length s.mutators
