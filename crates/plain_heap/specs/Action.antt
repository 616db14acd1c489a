-- What an instruction does, as far as the registers of its mutator tell: its ends in the order in which they are tried, else its action.
use Rattle.std.specs.Prelude.{ℕ, ◌+◌, ◌%◌, Bool, true, false, ◌&&◌, length, Result, Ok, Err, nat_lt, nat_le, ◌==◌, if◌then◌else◌, slice_index_or}
use Rattle.plain_state.specs.declared.end.End.{End}
use Rattle.plain_state.specs.declared.end.End.TheVariants.{Halt, NotPointer, NotNumber, OutOfRange, OutputFull}
use Rattle.plain_state.specs.declared.kind.Kind.{Kind}
use Rattle.plain_state.specs.declared.kind.Kind.TheVariants.{Fields, Raw, Mixed, Weak}
use Rattle.plain_state.specs.declared.operation.Operation.{Operation}
use Rattle.plain_state.specs.declared.operation.Operation.TheVariants as operations
use Rattle.plain_state.specs.declared.sizes.TheConstants.{NUMBERS, MOST_PRINTED, LONGEST_RECORD, BOARD_WORDS}
use Rattle.plain_state.specs.declared.value.Identity.{Identity}
use Rattle.plain_state.specs.declared.value.Value.{Value}
use Rattle.plain_state.specs.declared.value.Value.TheVariants.{Number, Reference}
use Rattle.plain_state.specs.Operation.{one_if, applied}
pub use Rattle.plain_state.specs.Holding.{in_record}
use Rattle.plain_state.specs.State.{Mutator}
use Rattle.mutator_asm.specs.declared.instr.Instr.{Instr}
use Rattle.mutator_asm.specs.declared.instr.Instr.TheVariants as instrs
use Rattle.mutator_asm.specs.declared.operand.Operand.{Operand}
use Rattle.mutator_asm.specs.declared.operand.Operand.TheVariants as operands
use Rattle.plain_heap.specs.declared.action.Action.{Action}
use Rattle.plain_heap.specs.declared.action.Action.TheVariants.{Sets, Jumps, Links, Prints, Makes, Measures, Loads, Stores, Compares, Gets, Puts, Swaps, Snaps}

-- the first end of two steps is the end of both
infixl 10 ◌>>=◌
abbrev pub ◌>>=◌ : {A B : Type 0} → Result A End → (A → Result B End) → Result B End
(Ok x) >>= f = f x
(Err why) >>= f = Err why

-- ---- what an instruction reads of its mutator

abbrev pub register : Mutator → ℕ → Value
register k r = slice_index_or k.registers r (Number 0)

abbrev pub as_number : Value → Result ℕ End
as_number (Number n) = Ok n
as_number (Reference i) = Err NotNumber

abbrev pub reference_in : Value → Result Identity End
reference_in (Number n) = Err NotPointer
reference_in (Reference i) = Ok i

-- a reference is not zero
abbrev pub is_zero : Value → Bool
is_zero (Number n) = n == 0
is_zero (Reference i) = false

abbrev pub is_reference : Value → Bool
is_reference (Number n) = false
is_reference (Reference i) = true

-- equal numbers, or the same record
abbrev pub are_same : Value → Value → Bool
are_same (Number n) (Number o) = n == o
are_same (Number n) (Reference j) = false
are_same (Reference i) (Number o) = false
are_same (Reference i) (Reference j) = (i.mutator == j.mutator) && (i.serial == j.serial)

-- a number as it stands, or the number that a register holds
abbrev pub operand : Mutator → Operand → Result ℕ End
operand k (operands.Reg r) = as_number (register k r)
operand k (operands.Number n) = Ok n

-- the number of the next instruction
abbrev pub next_of : Mutator → ℕ
next_of k = (k.counter + 1) % NUMBERS

-- the number as the length of a record, where it is none too long
abbrev pub length_of : ℕ → Result ℕ End
length_of n = if nat_le n LONGEST_RECORD then Ok n else Err OutOfRange

-- how many values a mixed record has, if the word for their count leaves room for them
abbrev pub mixed_length : (fields raw : ℕ) → Result ℕ End
mixed_length fields raw = if nat_lt (fields + raw) LONGEST_RECORD then Ok (fields + raw) else Err OutOfRange

-- the number as that of a word of the board
abbrev pub on_board : ℕ → Result ℕ End
on_board x = in_record BOARD_WORDS x

-- ---- the actions

-- register d takes what an operation computes of the numbers in registers a and b
abbrev pub computes : Operation → Mutator → (d a b : ℕ) → Result Action End
computes operation k d a b = do
  a ← as_number (register k a)
  b ← as_number (register k b)
  n ← applied operation a b
  Ok (Sets d (Number n))

-- register d refers to a new record of zeros, whose length an operand names
abbrev pub allocates : Mutator → Kind → (d : ℕ) → Operand → Result Action End
allocates k kind d x = do
  x ← operand k x
  n ← length_of x
  Ok (Makes kind d n (Number 0))

-- register d refers to a new mixed record, of as many fields and as many plain numbers as two operands name
abbrev pub mixes : Mutator → (d : ℕ) → (fields raw : Operand) → Result Action End
mixes k d fields raw = do
  fields ← operand k fields
  raw ← operand k raw
  n ← mixed_length fields raw
  Ok (Makes (Mixed fields) d n (Number 0))

-- a word of the board, which an operand names
abbrev pub board_place : Mutator → Operand → Result ℕ End
board_place k x = do
  x ← operand k x
  on_board x

-- a number is printed by a mutator that has not printed the most
abbrev pub prints : Mutator → ℕ → Result Action End
prints k n = if nat_lt (length k.printed) MOST_PRINTED then Ok (Prints n) else Err OutputFull

unfoldable pub action : Mutator → Instr → Result Action End
action k (instrs.Li d n) = Ok (Sets d (Number n))
action k (instrs.Mov d a) = Ok (Sets d (register k a))
action k (instrs.Add d a b) = computes operations.Add k d a b
action k (instrs.Sub d a b) = computes operations.Sub k d a b
action k (instrs.Mul d a b) = computes operations.Mul k d a b
action k (instrs.Div d a b) = computes operations.Div k d a b
action k (instrs.Rem d a b) = computes operations.Rem k d a b
action k (instrs.Lt d a b) = computes operations.Lt k d a b
action k (instrs.Eq d a b) = Ok (Sets d (Number (one_if (are_same (register k a) (register k b)))))
action k (instrs.Jmp target) = Ok (Jumps target)
action k (instrs.Jz a target) = Ok (Jumps (if is_zero (register k a) then target else next_of k))
action k (instrs.Jal d target) = Ok (Links d target)
action k (instrs.Jr a) = do
  n ← as_number (register k a)
  Ok (Jumps n)
action k (instrs.New d x) = allocates k Fields d x
action k (instrs.Raw d x) = allocates k Raw d x
action k (instrs.Mix d fields raw) = mixes k d fields raw
action k (instrs.Weak d a) = do
  i ← reference_in (register k a)
  Ok (Makes Weak d 1 (Reference i))
action k (instrs.Ld d a x) = do
  i ← reference_in (register k a)
  x ← operand k x
  Ok (Loads d i x)
action k (instrs.St a x b) = do
  i ← reference_in (register k a)
  x ← operand k x
  Ok (Stores i x (register k b))
action k (instrs.Cas d a x b c) = do
  i ← reference_in (register k a)
  x ← operand k x
  Ok (Compares d i x (register k b) (register k c))
action k (instrs.Len d a) = do
  i ← reference_in (register k a)
  Ok (Measures d i)
action k (instrs.Isp d a) = Ok (Sets d (Number (one_if (is_reference (register k a)))))
action k (instrs.Get d x) = do
  x ← board_place k x
  Ok (Gets d x)
action k (instrs.Put x a) = do
  x ← board_place k x
  Ok (Puts x (register k a))
action k (instrs.Swap d x) = do
  x ← board_place k x
  Ok (Swaps d x (register k d))
action k (instrs.Out a) = do
  n ← as_number (register k a)
  prints k n
action k instrs.Snap = Ok Snaps
action k instrs.Halt = Err Halt
