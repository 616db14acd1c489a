-- The task `audit`: the output of a run is held against the program whose text stands before it.
use Rattle.std.specs.Prelude.{◌≡◌, ◌⊎◌, ℕ, false, List, ◌++◌, length, Ok, codes, decimal}
use Rattle.mutator_asm.specs.declared.instr.Instr.{Instr}
use Rattle.mutator_asm.specs.declared.item.Item.{Item}
use Rattle.mutator_asm.specs.Text.{IsFault, IsText}
use Rattle.dump_text.specs.Said.{dump_said}
use Rattle.heap_state.specs.Meaning.Represents.{DumpRepresents}
use Rattle.heap_audit.specs.Texts.FirstWrong.{IsFirstWrongOf}
use Rattle.heap_audit.specs.Texts.Part.{IsPart, Output, part_text}
use Rattle.heap_audit.specs.Verdict.{PrintsLines, SaysYesIfTrue, TellsVerdict, plain_of}
use Rattle.heap_audit.specs.declared.verdict.At.TheVariants.{Line, Register, Word}
use Rattle.heap_audit.specs.declared.verdict.Verdict.{Verdict}
use Rattle.heap_audit.specs.declared.verdict.Verdict.TheVariants as verdicts
use Rattle.ael_jobs.specs.declared.arguments.options.AuditOptions.{AuditOptions}
use Rattle.ael_jobs.specs.declared.status.Status.{Status}
use Rattle.ael_jobs.specs.declared.status.Status.TheVariants.{BadOutput, Done, No, NoMemory, Text}
use Rattle.ael_jobs.specs.Tasks.Division.{part_in, text_in}
use Rattle.ael_jobs.specs.Tasks.Task.{Everything, Task}

-- ---- the input

-- the input has the text of a program
pub record HasProgram (input : List ℕ) : Type 0 where
  pub program : List (List Instr)
  pub items : List Item
  pub text : IsText (text_in input) program items

-- and then a part that is of the form of an output of this program
pub record HasOutput (input : List ℕ) : Type 0 where
  pub has : HasProgram input
  pub output : Output
  pub is_part : IsPart (length has.program) output
  pub printed : part_in input ≡ part_text output

-- the part isn't of this form: this line is the first that is wrong
pub record HasBadOutput (input : List ℕ) (line : ℕ) : Type 0 where
  pub has : HasProgram input
  pub first : IsFirstWrongOf part_text (IsPart (length has.program)) (part_in input) line

-- the text has a fault, or the part is wrong
abbrev pub HasFaultyPart : List ℕ → Status → Type 0
HasFaultyPart input (Text number line) = IsFault (text_in input) number line
HasFaultyPart input (BadOutput line) = HasBadOutput input line
HasFaultyPart input _ = ⊥

-- ---- the verdict

-- the line that tells it
abbrev pub verdict_text : Verdict → List ℕ
verdict_text verdicts.Yes = codes "audit: yes\n"
verdict_text (verdicts.No (Line line)) = codes "audit: no: line " ++ decimal line ++ codes "\n"
verdict_text (verdicts.No (Register m j)) = codes "audit: no: register " ++ decimal m ++ codes " " ++ decimal j ++ codes "\n"
verdict_text (verdicts.No (Word place)) = codes "audit: no: word " ++ decimal place ++ codes "\n"

-- how it goes
abbrev pub verdict_status : Verdict → Status
verdict_status verdicts.Yes = Done
verdict_status (verdicts.No at) = No

-- the line of the verdict on the part, if each mutator may execute so many instructions; this is yes if the part is a true output
pub record IsAudited (turns : ℕ) (input output : List ℕ) (status : Status) : Type 0 where
  pub has : HasProgram input
  pub verdict : Verdict
  pub tells : TellsVerdict has.program turns (part_in input) (Ok verdict)
  pub yes : SaysYesIfTrue has.program turns (part_in input) (Ok verdict)
  pub prints : output ≡ verdict_text verdict
  pub went : status ≡ verdict_status verdict

-- why there is no verdict: the text or the part is faulty, or memory was wanting
abbrev pub HasNoVerdict : List ℕ → Status → Type 0
HasNoVerdict input status = HasFaultyPart input status ⊎ (status ≡ NoMemory)

-- The part is a true output: its lines are those that the plain machine prints that executes the program in its order, and its dump
-- represents the state of that machine.
pub record HasTrueOutput (turns : ℕ) (input : List ℕ) : Type 0 where
  pub has : HasOutput input
  pub lines : PrintsLines has.has.program turns has.output
  pub dump : DumpRepresents (dump_said has.output.dump) (plain_of has.has.program turns has.output)

-- ---- the task

-- it reads an input of a text and a part, and waits for nobody
abbrev pub audit_task : AuditOptions → Task
audit_task options = record {
  reads = Everything;
  waits = false;
  IsRight = HasOutput;
  Refuses = HasFaultyPart;
  Makes = IsAudited options.turns;
}
