-- How a clerk that has taken in all others reads what each of them has noted.
use Rattle.std.specs.Prelude.{◌≡◌, ◌≢◌, ℕ, ◌^◌, ◌<◌, false, List, [], ◌∷◌, length, reverse, Option, Some, None, slice_get, slice_index_or}
use Rattle.std.specs.List.{AllByRecursion}
use Rattle.std.specs.Option.{option_map_or}
use Rattle.plain_state.specs.declared.sizes.TheConstants.{BOARD_WORDS}
use Rattle.plain_state.specs.declared.value.Value.{Value}
use Rattle.plain_state.specs.declared.value.Value.TheVariants.{Number, Reference}
use Rattle.plain_state.specs.State.{Heap, Record, made_by, record_of}
use Rattle.mutator_asm.specs.declared.instr.Instr.{Instr}
use Rattle.mutator_asm.specs.declared.instr.Instr.TheVariants as instrs
use Rattle.mutator_asm.specs.declared.operand.Operand.TheVariants as operands
use Rattle.plain_heap.specs.Call.{board_word, is_cell}
use Rattle.plain_heap.specs.Order.{fresh}
use Rattle.ael_threads.specs.Seats.{Seated, first_number, plain_after_seen}
use Rattle.concordance_text.specs.declared.part.Part.{Part}
use Rattle.concordance_text.specs.Parts.{mentions_of_part}
use Rattle.concordance_text.specs.Rows.{WordRow, with_lines}
use Rattle.concordance_text.specs.Words.{Mention}
use Rattle.concordance.specs.Lone.{KeepsSeat}
use Rattle.concordance.specs.Notes.Invariant.{AreApart, HasLines, TellJust}
use Rattle.concordance.specs.Notes.Records.{AreEntries, AreLines, IsEntry, Note}
use Rattle.concordance.specs.Whole.{IsWhole}

-- ---- what each clerk has noted

-- Word k of the board leads to the notes of clerk k, which tell just these words in their lines, each word once, with its lines falling.
pub record BoardLeadsToNotes (heap : Heap) (k : ℕ) (mentions : List Mention) : Type 0 where
  pub notes : List Note
  pub entries : AreEntries k (made_by heap k) (board_word heap k) notes
  pub apart : AreApart notes
  pub lines : AllByRecursion HasLines notes
  pub told : TellJust notes mentions

-- each clerk has noted the words of its part
abbrev pub AllAreNoted : Heap → List Part → Type 0
AllAreNoted heap parts = (k : ℕ) (part : Part) → slice_get parts k ≡ Some part → BoardLeadsToNotes heap k (mentions_of_part part)

-- ---- the clerk that reads them

-- it has taken in all others, and has no end
pub record HasAll (s : Seated) : Type 0 where
  pub whole : IsWhole s
  pub no_end : s.worker.account.end ≡ None

-- the whole plain heap, and a clerk's registers
pub record WholeDesk : Type 0 where
  pub heap : Heap
  pub registers : List Value

-- after all that the clerk has seen
unfoldable pub whole_desk_of : Seated → WholeDesk
whole_desk_of s = record {
  heap = (plain_after_seen s.knows).heap;
  registers = (slice_index_or (plain_after_seen s.knows).mutators (first_number s.knows.hands) fresh).registers;
}

abbrev pub whole_register : WholeDesk → ℕ → Value
whole_register desk r = slice_index_or desk.registers r (Number 0)

-- the record to which a value leads
abbrev pub record_at : Heap → Value → Option Record
record_at heap (Number n) = None
record_at heap (Reference i) = record_of heap i

-- its values
abbrev pub values_at : Heap → Value → List Value
values_at heap v = option_map_or (λ (r : Record). r.values) (record_at heap v) []

-- ---- the instructions that read

-- the value leads to a record that has a value x, and is no cell
pub record HasValueAt (heap : Heap) (v : Value) (x : ℕ) : Type 0 where
  pub found : Record
  pub is : record_at heap v ≡ Some found
  pub within : x < length found.values
  pub no_cell : is_cell found.kind ≡ false

-- The instruction reads a word of the board, a value of a record or a record's length, and its operands are what it asks for.
abbrev pub CanGet : WholeDesk → Instr → Type 0
CanGet desk (instrs.Get d (operands.Number x)) = x < BOARD_WORDS
CanGet desk (instrs.Ld d a (operands.Number x)) = HasValueAt desk.heap (whole_register desk a) x
CanGet desk (instrs.Len d a) = (r : Record) × (record_at desk.heap (whole_register desk a) ≡ Some r)
CanGet desk _ = ⊥

-- what it reads
abbrev pub value_got : WholeDesk → Instr → Value
value_got desk (instrs.Get d (operands.Number x)) = board_word desk.heap x
value_got desk (instrs.Ld d a (operands.Number x)) = slice_index_or (values_at desk.heap (whole_register desk a)) x (Number 0)
value_got desk (instrs.Len d a) = Number (length (values_at desk.heap (whole_register desk a)))
value_got desk _ = Number 0

-- the register that takes it
abbrev pub register_set : Instr → ℕ
register_set (instrs.Get d x) = d
register_set (instrs.Ld d a x) = d
register_set (instrs.Len d a) = d
register_set _ = 0

-- It has only read: it still has all, and the heap is the same.
pub record HasRead (a b : Seated) : Type 0 where
  pub seat : KeepsSeat a b
  pub all : HasAll b
  pub heap : (whole_desk_of b).heap ≡ (whole_desk_of a).heap

-- what it has read stands in register d, and the others are the same
pub record HasGot (a : Seated) (d : ℕ) (v : Value) (b : Seated) : Type 0 where
  pub read : HasRead a b
  pub taken : whole_register (whole_desk_of b) d ≡ v
  pub others : (r : ℕ) → r ≢ d → whole_register (whole_desk_of b) r ≡ whole_register (whole_desk_of a) r

-- ---- what a register leads to

-- the letters are bytes, and the word's length and the numbers of its lines have 32 bits
pub record HasSmallNumbers (e : Note) : Type 0 where
  pub letters : AllByRecursion (λ b. b < 2 ^ 8) e.word
  pub short : length e.word < 2 ^ 32
  pub lines : AllByRecursion (λ n. n < 2 ^ 32) e.lines

-- the entries of a clerk's notes, one after the other
pub record LeadsToEntries (desk : WholeDesk) (r : ℕ) : Type 0 where
  pub clerk : ℕ
  pub notes : List Note
  pub entries : AreEntries clerk (made_by desk.heap clerk) (whole_register desk r) notes
  pub small : AllByRecursion HasSmallNumbers notes

-- the entry of a clerk's note
pub record LeadsToEntry (desk : WholeDesk) (r : ℕ) : Type 0 where
  pub clerk : ℕ
  pub note : Note
  pub before : Value
  pub entry : IsEntry clerk (made_by desk.heap clerk) (whole_register desk r) note before
  pub small : HasSmallNumbers note

-- the lines of a word, one after the other
pub record LeadsToLines (desk : WholeDesk) (r : ℕ) : Type 0 where
  pub clerk : ℕ
  pub lines : List ℕ
  pub are : AreLines clerk (made_by desk.heap clerk) (whole_register desk r) lines
  pub small : AllByRecursion (λ n. n < 2 ^ 32) lines

-- ---- rows

-- rows to which the notes are added, one after the other
abbrev pub with_notes : List Note → List WordRow → List WordRow
with_notes [] rows = rows
with_notes (e ∷ es) rows = with_notes es (with_lines e.word (reverse e.lines) rows)
