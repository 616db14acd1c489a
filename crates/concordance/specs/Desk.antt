-- What a clerk works with on the plain heap: the records that it made, and its registers.
use Rattle.std.specs.Prelude.{◌≡◌, ⊤, false, ℕ, ◌+◌, ◌-◌, ◌^◌, ◌<◌, ◌≤◌, List, [], ◌∷◌, ◌++◌, length, Some, IsOk, slice_index_or, slice_set}
use Rattle.std.specs.Option.{option_map_or}
use Rattle.plain_state.specs.declared.kind.Kind.{Kind}
use Rattle.plain_state.specs.declared.kind.Kind.TheVariants.{Fields, Raw}
use Rattle.plain_state.specs.declared.sizes.TheConstants.{LONGEST_RECORD}
use Rattle.plain_state.specs.declared.value.Value.{Value}
use Rattle.plain_state.specs.declared.value.Value.TheVariants.{Number, Reference}
use Rattle.plain_state.specs.State.{Heap, Mutator, Plain, Record, at_serial, made_by}
use Rattle.plain_state.specs.Writing.{with_value, zeros}
use Rattle.mutator_asm.specs.declared.instr.Instr.{Instr}
use Rattle.mutator_asm.specs.declared.instr.Instr.TheVariants as instrs
use Rattle.mutator_asm.specs.declared.operand.Operand.TheVariants as operands
use Rattle.plain_heap.specs.Call.{is_cell, may_hold}
use Rattle.plain_heap.specs.Order.{fresh}

-- a clerk's number, its records in the order in which it made them, and its registers
pub record Desk : Type 0 where
  pub number : ℕ
  pub records : List Record
  pub registers : List Value

-- that of mutator m, which is k
abbrev pub desk_at : (m : ℕ) → Heap → Mutator → Desk
desk_at m heap k = record { number = m; records = made_by heap m; registers = k.registers }

abbrev pub desk_in : Plain → (m : ℕ) → Desk
desk_in p m = desk_at m p.heap (slice_index_or p.mutators m fresh)

-- ---- what is read

abbrev pub desk_register : Desk → ℕ → Value
desk_register desk r = slice_index_or desk.registers r (Number 0)

-- a reference to the record with this serial of mutator m
abbrev pub own : ℕ → ℕ → Value
own m serial = Reference (record { mutator = m; serial = serial })

-- the value leads to a record of the clerk's own
pub record LeadsTo (desk : Desk) (v : Value) (r : Record) : Type 0 where
  pub serial : ℕ
  pub is : v ≡ own desk.number serial
  pub found : at_serial desk.records serial ≡ Some r

-- the values of the record to which a value leads; if it leads to none, no values
abbrev pub desk_values : Desk → Value → List Value
desk_values desk (Number n) = []
desk_values desk (Reference i) = option_map_or (λ (r : Record). r.values) (at_serial desk.records i.serial) []

-- value x of it
abbrev pub desk_word : Desk → Value → (x : ℕ) → Value
desk_word desk v x = slice_index_or (desk_values desk v) x (Number 0)

-- ---- what is written

-- register d takes a value
abbrev pub desk_with_value : Desk → (d : ℕ) → Value → Desk
desk_with_value desk d v = record desk { registers = slice_set desk.registers d v }

-- value x of the record to which v leads becomes w
abbrev pub desk_with_word : Desk → (v : Value) → (x : ℕ) → (w : Value) → Desk
desk_with_word desk (Number n) x w = desk
desk_with_word desk (Reference i) x w =
    record desk { records = option_map_or (λ (r : Record). slice_set desk.records (i.serial - 1) (with_value r x w)) (at_serial desk.records i.serial) desk.records }

-- one more record, of n values that are 0, to which register d leads
abbrev pub desk_with_record : Desk → Kind → (d n : ℕ) → Desk
desk_with_record desk kind d n = record {
  number = desk.number;
  records = desk.records ++ zeros kind n ∷ [];
  registers = slice_set desk.registers d (own desk.number (length desk.records + 1));
}

-- ---- the instructions that a clerk executes

-- the value leads to an own record that has a value x, and is no cell
pub record HasWord (desk : Desk) (v : Value) (x : ℕ) : Type 0 where
  pub found : Record
  pub leads : LeadsTo desk v found
  pub within : x < length found.values
  pub no_cell : is_cell found.kind ≡ false

-- it leads to one that may hold w there
pub record MayTake (desk : Desk) (v : Value) (x : ℕ) (w : Value) : Type 0 where
  pub found : Record
  pub leads : LeadsTo desk v found
  pub within : x < length found.values
  pub holds : IsOk (may_hold found.kind x w)

-- The instruction leaves the board alone and makes no record, and its operands are what it asks for: so it is executed.
abbrev pub CanDo : Desk → Instr → Type 0
CanDo desk (instrs.Li d n) = ⊤
CanDo desk (instrs.Mov d a) = ⊤
CanDo desk (instrs.Ld d a (operands.Number x)) = HasWord desk (desk_register desk a) x
CanDo desk (instrs.St a (operands.Number x) b) = MayTake desk (desk_register desk a) x (desk_register desk b)
CanDo desk (instrs.Len d a) = (r : Record) × LeadsTo desk (desk_register desk a) r
CanDo desk _ = ⊥

-- The instruction makes a record that is not too long, and whose serial fits a header: it is executed, unless the heap is full.
abbrev pub CanMake : Desk → Instr → Type 0
CanMake desk (instrs.New d (operands.Number n)) = (n ≤ LONGEST_RECORD) × (length desk.records + 1 < 2 ^ 40)
CanMake desk (instrs.Raw d (operands.Number n)) = (n ≤ LONGEST_RECORD) × (length desk.records + 1 < 2 ^ 40)
CanMake desk _ = ⊥

-- what one of these leaves
abbrev pub desk_after : Desk → Instr → Desk
desk_after desk (instrs.Li d n) = desk_with_value desk d (Number n)
desk_after desk (instrs.Mov d a) = desk_with_value desk d (desk_register desk a)
desk_after desk (instrs.Ld d a (operands.Number x)) = desk_with_value desk d (desk_word desk (desk_register desk a) x)
desk_after desk (instrs.St a (operands.Number x) b) = desk_with_word desk (desk_register desk a) x (desk_register desk b)
desk_after desk (instrs.Len d a) = desk_with_value desk d (Number (length (desk_values desk (desk_register desk a))))
desk_after desk (instrs.New d (operands.Number n)) = desk_with_record desk Fields d n
desk_after desk (instrs.Raw d (operands.Number n)) = desk_with_record desk Raw d n
desk_after desk _ = desk

-- the words of the record that one makes, with its header
abbrev pub desk_size_made : Instr → ℕ
desk_size_made (instrs.New d (operands.Number n)) = n + 1
desk_size_made (instrs.Raw d (operands.Number n)) = n + 1
desk_size_made _ = 0
