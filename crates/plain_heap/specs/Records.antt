-- What an instruction does to the records that are there: it changes a word only by storing in it, and no record's kind or length.
use Rattle.std.specs.Prelude.{◌≡◌, ℕ, Bool, true, false, ◌==◌, ◌&&◌, length, [], Option, Some, Result, Ok, if◌then◌else◌, slice_index_or}
use Rattle.std.specs.Option.{option_map, option_map_or}
use Rattle.plain_state.specs.declared.end.End.{End}
use Rattle.plain_state.specs.declared.kind.Kind.{Kind}
use Rattle.plain_state.specs.declared.value.Identity.{Identity}
use Rattle.plain_state.specs.declared.value.Value.{Value}
use Rattle.plain_state.specs.declared.value.Value.TheVariants.{Number, Reference}
use Rattle.plain_state.specs.Operation.{one_if}
use Rattle.plain_state.specs.State.{Record, Heap, Mutator, record_of}
use Rattle.mutator_asm.specs.declared.instr.Instr.{Instr}
use Rattle.plain_heap.specs.declared.action.Action.{Action}
use Rattle.plain_heap.specs.declared.action.Action.TheVariants.{Loads, Stores, Compares}
use Rattle.plain_heap.specs.Action.{action, are_same}
use Rattle.plain_heap.specs.Call.{After, is_cell, values_of, words_in, set_register, went_on, loads, call}

-- ---- words

-- The word of a record at this index, if there is one that is stored; else the number 0. Such a word begins with it.
abbrev pub record_word : Heap → Identity → (index : ℕ) → Value
record_word heap identity index = slice_index_or (option_map_or words_in (record_of heap identity) []) index (Number 0)

-- whether that is word `at` of this target
abbrev pub is_word : (target : Identity) → (at : ℕ) → Identity → (index : ℕ) → Bool
is_word target at identity index = are_same (Reference target) (Reference identity) && (at == index)

-- What an action leaves in that word, in which this stands: what it stores there, else the same. An exchange stores if this is what it expects.
abbrev pub word_after : Result Action End → Identity → (index : ℕ) → Value → Value
word_after (Ok (Stores target at value)) identity index now = if is_word target at identity index then value else now
word_after (Ok (Compares register target at expected value)) identity index now = if is_word target at identity index && are_same now expected then value else now
word_after _ identity index now = now

-- an instruction leaves each word of each record as it was, but for the one in which it stores
abbrev pub OnlyStoresChangeWords : Type 0
OnlyStoresChangeWords = (number : ℕ) (heap : Heap) (mutator : Mutator) (instr : Instr) (after : After) (identity : Identity) (index : ℕ) → call number heap mutator instr ≡ Ok after
    → record_word after.heap identity index ≡ word_after (action mutator instr) identity index (record_word heap identity index)

-- a cell with this identity is there
abbrev pub is_cell_there : Heap → Identity → Bool
is_cell_there heap identity = option_map_or (λ r. is_cell r.kind) (record_of heap identity) false

-- what a load takes: of a cell its value, of any other record the word, which is this
abbrev pub loaded_there : Heap → Identity → (index : ℕ) → (word : Value) → Value
loaded_there heap identity index word = if is_cell_there heap identity then slice_index_or (values_of heap identity) index (Number 0) else word

-- an instruction that loads takes that into its register, and changes nothing else
abbrev pub LoadsTakeTheWord : Type 0
LoadsTakeTheWord = (number : ℕ) (heap : Heap) (mutator : Mutator) (instr : Instr) (after : After) (register : ℕ) (identity : Identity) (index : ℕ)
    → action mutator instr ≡ Ok (Loads register identity index) → call number heap mutator instr ≡ Ok after
    → after ≡ loads heap mutator register (loaded_there heap identity index (record_word heap identity index))

-- what an exchange tells that finds this: 1 if it is what it expects, else 0
abbrev pub success : (found expected : Value) → Value
success found expected = Number (one_if (are_same found expected))

-- what it leaves: its register takes that, and nothing else changes unless it is 1
pub record IsExchanged (heap : Heap) (mutator : Mutator) (register : ℕ) (found expected : Value) (after : After) : Type 0 where
  pub mutator_is : after.mutator ≡ went_on (set_register mutator register (success found expected))
  pub fails : are_same found expected ≡ false → after.heap ≡ heap

-- an instruction that exchanges finds the word
abbrev pub ExchangesFindTheWord : Type 0
ExchangesFindTheWord = (number : ℕ) (heap : Heap) (mutator : Mutator) (instr : Instr) (after : After) (register : ℕ) (identity : Identity) (index : ℕ) (expected new : Value)
    → action mutator instr ≡ Ok (Compares register identity index expected new) → call number heap mutator instr ≡ Ok after
    → IsExchanged heap mutator register (record_word heap identity index) expected after

-- ---- kinds and lengths

-- what never changes of a record
pub record RecordShape : Type 0 where
  pub kind : Kind
  pub len : ℕ

abbrev pub shape : Record → RecordShape
shape r = record { kind = r.kind; len = length r.values }

-- that of a record, if it is there
abbrev pub shape_of : Heap → Identity → Option RecordShape
shape_of heap identity = option_map shape (record_of heap identity)

-- no instruction changes a cell
abbrev pub CellsStay : Type 0
CellsStay = (number : ℕ) (heap : Heap) (mutator : Mutator) (instr : Instr) (after : After) (identity : Identity) (cell : Record) → call number heap mutator instr ≡ Ok after
    → is_cell cell.kind ≡ true → record_of heap identity ≡ Some cell → record_of after.heap identity ≡ Some cell

-- an instruction leaves each record there, with its kind and its length
abbrev pub ShapesStay : Type 0
ShapesStay = (number : ℕ) (heap : Heap) (mutator : Mutator) (instr : Instr) (after : After) (identity : Identity) (known : RecordShape) → call number heap mutator instr ≡ Ok after
    → shape_of heap identity ≡ Some known → shape_of after.heap identity ≡ Some known
