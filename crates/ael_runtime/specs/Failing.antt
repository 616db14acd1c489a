-- When a call of the runtime fails, and what it leaves then.
use Rattle.std.specs.Prelude.{◌≡◌, ℕ, ◌+◌, ◌<◌, ◌≤◌, ◌⊎◌, Bool, true, false, [], ◌∷◌, None, Some, Err}
use Rattle.plain_state.specs.declared.end.End.{End}
use Rattle.plain_state.specs.declared.sizes.TheConstants.{BOARD_WORDS, LONGEST_RECORD, NUMBERS}
use Rattle.plain_state.specs.declared.value.Identity.{Identity}
use Rattle.plain_state.specs.declared.value.Value.TheVariants.{Reference}
use Rattle.plain_state.specs.State.{Record, record_of}
use Rattle.mutator_asm.specs.declared.instr.Instr.{Instr}
use Rattle.mutator_asm.specs.declared.instr.Instr.TheVariants as instrs
use Rattle.mutator_asm.specs.declared.operand.Operand.TheVariants as operands
use Rattle.plain_heap.specs.Action.{is_reference}
use Rattle.plain_heap.specs.Alone.{is_heap_full}
use Rattle.plain_heap.specs.Call.{may_hold}
use Rattle.ael_threads.specs.declared.mutator.refused.TheConstants.{MOST_RECORDS}
use Rattle.ael_threads.specs.Seats.{Seated}
use Rattle.ael_runtime.specs.declared.failure.Failure.{Failure}
use Rattle.ael_runtime.specs.declared.failure.Failure.TheVariants.{Ended, RecordsOut, NotRecord, OutOfRange, TooLarge}
use Rattle.ael_runtime.specs.declared.root.TheConstants.{FRAMES, SCRATCH}
use Rattle.ael_runtime.specs.Calling.{EndedBy, EndedByOnceSeen, HadEffects, done, trapped}
use Rattle.ael_runtime.specs.Reading.{held, len_of, seen_heap}

-- it had an end, and nothing was done
abbrev pub HadEnd : Seated → End → Seated → Type 0
HadEnd a end b = (a.worker.account.end ≡ Some end) × (b ≡ a)

-- it has none, and nothing was done
abbrev pub DidNothing : Seated → Seated → Type 0
DidNothing a b = (a.worker.account.end ≡ None) × (b ≡ a)

-- ---- calls that need nothing

-- of a call that fails only for an end
abbrev pub Fails : Seated → Failure → Seated → Type 0
Fails a (Ended end) b = HadEnd a end b
Fails a why b = ⊥

-- of one that sets a number
abbrev pub NumberFails : Seated → (n : ℕ) → Failure → Seated → Type 0
NumberFails a n TooLarge b = DidNothing a b × (NUMBERS ≤ n)
NumberFails a n why b = Fails a why b

-- of one that names a word of the board
abbrev pub BoardFails : Seated → (word : ℕ) → Failure → Seated → Type 0
BoardFails a word OutOfRange b = DidNothing a b × (BOARD_WORDS ≤ word)
BoardFails a word why b = Fails a why b

-- ---- calls that need a record

-- of one that looks at the record in a register
abbrev pub RecordFails : Seated → (of : ℕ) → Failure → Seated → Type 0
RecordFails a of NotRecord b = DidNothing a b × (is_reference (held a of) ≡ false)
RecordFails a of why b = Fails a why b

-- it has looked at the length, which is too short
pub record FallsShort (a : Seated) (of at : ℕ) (b : Seated) : Type 0 where
  pub effects : HadEffects a (done (instrs.Len SCRATCH of) ∷ []) SCRATCH b
  pub short : len_of (seen_heap b) (held a of) ≤ at

-- of one that needs a word of that record
abbrev pub WordFails : Seated → (of at : ℕ) → Failure → Seated → Type 0
WordFails a of at OutOfRange b = FallsShort a of at b
WordFails a of at why b = RecordFails a of why b

-- it has this word, but a record of its kind can't hold the value there, and the mutator has this end
pub record CantHold (a : Seated) (of at what : ℕ) (end : End) (b : Seated) : Type 0 where
  pub ends : EndedByOnceSeen a of (trapped (instrs.St of (operands.Number at) what) end ∷ []) end b
  pub within : at < len_of (seen_heap b) (held a of)
  pub identity : Identity
  pub leads : held a of ≡ Reference identity
  pub found : Record
  pub is : record_of (seen_heap b) identity ≡ Some found
  pub refuses : may_hold found.kind at (held a what) ≡ Err end

-- of one that stores in it
abbrev pub StoreFails : Seated → (of at what : ℕ) → Failure → Seated → Type 0
StoreFails a of at what (Ended end) b = HadEnd a end b ⊎ CantHold a of at what end b
StoreFails a of at what why b = WordFails a of at why b

-- ---- calls that make a record

-- the heap is full
abbrev pub IsFull : Seated → Instr → End → Seated → Type 0
IsFull a instr end b = EndedBy a (trapped instr end ∷ []) end b × (is_heap_full end ≡ true)

-- of one that makes a record, which may be too long; that is told before there are too many
abbrev pub MakeFails : (too_long : Bool) → Seated → Instr → Failure → Seated → Type 0
MakeFails too_long a instr (Ended end) b = HadEnd a end b ⊎ IsFull a instr end b
MakeFails too_long a instr RecordsOut b = DidNothing a b × (too_long ≡ false) × (MOST_RECORDS ≤ a.worker.account.serial)
MakeFails too_long a instr TooLarge b = DidNothing a b × (too_long ≡ true)
MakeFails too_long a instr why b = ⊥

-- the heap is full for a frame with this number of slots, and what was on top stays there
pub record IsFullForFrame (a : Seated) (slots : ℕ) (end : End) (b : Seated) : Type 0 where
  pub ends : EndedBy a (done (instrs.Mov SCRATCH FRAMES) ∷ trapped (instrs.New FRAMES (operands.Number (slots + 1))) end ∷ []) end b
  pub full : is_heap_full end ≡ true

-- of one that puts a frame on top, which may have too many slots; that is told before there are too many records
abbrev pub FrameFails : Seated → (slots : ℕ) → Failure → Seated → Type 0
FrameFails a slots (Ended end) b = HadEnd a end b ⊎ IsFullForFrame a slots end b
FrameFails a slots RecordsOut b = DidNothing a b × (slots < LONGEST_RECORD) × (MOST_RECORDS ≤ a.worker.account.serial)
FrameFails a slots TooLarge b = DidNothing a b × (LONGEST_RECORD ≤ slots)
FrameFails a slots why b = ⊥
