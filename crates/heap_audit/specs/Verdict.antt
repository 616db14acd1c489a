-- What an audit says of an output.
use Rattle.std.specs.Prelude.{◌≡◌, ◌⊎◌, ℕ, ◌+◌, List, length, Option, Some, None, Result, Ok, Err}
use Rattle.mutator_asm.specs.declared.instr.Instr.{Instr}
use Rattle.plain_state.specs.State.{Plain}
use Rattle.space_map.specs.Spaces.{board_page, first_word}
use Rattle.space_map.specs.Table.{Area, HeapWord, Size, place_of}
use Rattle.dump_text.specs.Said.{dump_said}
use Rattle.dump_text.specs.Text.{Dumped}
use Rattle.heap_state.specs.Meaning.Represents.{DumpRepresents}
use Rattle.plain_heap.specs.Order.{plain}
use Rattle.plain_heap.specs.Print.{lines_seen, print_of}
use Rattle.heap_audit.specs.Texts.FirstOther.{IsFirstOther}
use Rattle.heap_audit.specs.Texts.FirstWrong.{IsFirstWrongOf}
use Rattle.heap_audit.specs.Texts.Part.{IsPart, Output, part_text}
use Rattle.heap_audit.specs.Places.{IsFirstUnseen}
use Rattle.heap_audit.specs.declared.audit_error.AuditError.{AuditError}
use Rattle.heap_audit.specs.declared.audit_error.AuditError.TheVariants as errors
use Rattle.heap_audit.specs.declared.places.place.Place.{Place}
use Rattle.heap_audit.specs.declared.places.place.Place.TheVariants as place
use Rattle.heap_audit.specs.declared.verdict.Verdict.{Verdict}
use Rattle.heap_audit.specs.declared.verdict.Verdict.TheVariants.{Yes, No}
use Rattle.heap_audit.specs.declared.verdict.At.{At}
use Rattle.heap_audit.specs.declared.verdict.At.TheVariants.{Line, Register, Word}

-- what the plain machine comes to that executes the program in the output's order
abbrev pub plain_of : List (List Instr) → ℕ → Output → Plain
plain_of code turns output = plain code turns output.order

-- the mutators' lines are those that the plain machine prints
abbrev pub PrintsLines : List (List Instr) → ℕ → Output → Type 0
PrintsLines code turns output = lines_seen 0 output.seen ≡ print_of (plain_of code turns output)

-- ---- places

-- a place as it is told: a register, or a word of the table
abbrev pub at_told : (pages : ℕ) → Place → At
at_told n (place.Size space) = Word (place_of n (Size space))
at_told n (place.Area space) = Word (place_of n (Area space))
at_told n (place.Register m j) = Register m j
at_told n (place.Board x) = Word (place_of n (HeapWord (first_word (board_page n) + x)))
at_told n (place.Word address) = Word (place_of n (HeapWord address))

-- it tells the first place of the dump that doesn't show what it should of the plain state
pub record IsFirstPlace (d : Dumped) (p : Plain) (at : At) : Type 0 where
  pub first : Place
  pub told : at_told d.pages first ≡ at
  pub unseen : IsFirstUnseen (dump_said d) p first

-- none is told if the dump represents the plain state
abbrev pub TellsPlace : Dumped → Plain → Option At → Type 0
TellsPlace d p None = DumpRepresents (dump_said d) p
TellsPlace d p (Some at) = IsFirstPlace d p at

-- ---- the verdict

-- Yes where the lines are the plain machine's and the dump represents its state. Else the first line that isn't, or if all are, the first
-- place of the dump that doesn't show what it should.
abbrev pub IsVerdict : List (List Instr) → ℕ → Output → Verdict → Type 0
IsVerdict code turns output Yes = PrintsLines code turns output × DumpRepresents (dump_said output.dump) (plain_of code turns output)
IsVerdict code turns output (No (Line line)) = IsFirstOther (print_of (plain_of code turns output)) (lines_seen 0 output.seen) line
IsVerdict code turns output (No (Register m j)) = PrintsLines code turns output × IsFirstPlace output.dump (plain_of code turns output) (Register m j)
IsVerdict code turns output (No (Word word)) = PrintsLines code turns output × IsFirstPlace output.dump (plain_of code turns output) (Word word)

-- A verdict is told exactly of bytes that are the text of a part; of others the first line that is wrong, unless memory runs out.
abbrev pub TellsVerdict : List (List Instr) → ℕ → List ℕ → Result Verdict AuditError → Type 0
TellsVerdict code turns bytes (Ok verdict) = (output : Output) × IsPart (length code) output × (bytes ≡ part_text output) × IsVerdict code turns output verdict
TellsVerdict code turns bytes (Err errors.NoMemory) = Unit {0}
TellsVerdict code turns bytes (Err (errors.Bad line)) = IsFirstWrongOf part_text (IsPart (length code)) bytes line

-- Yes is said of the text of each part whose lines are the plain machine's and whose dump represents its state, unless memory runs out.
abbrev pub SaysYesIfTrue : List (List Instr) → ℕ → List ℕ → Result Verdict AuditError → Type 0
SaysYesIfTrue code turns bytes said =
    (output : Output) → IsPart (length code) output → bytes ≡ part_text output → PrintsLines code turns output → DumpRepresents (dump_said output.dump) (plain_of code turns output)
    → (said ≡ Ok Yes) ⊎ (said ≡ Err errors.NoMemory)
