-- Exit statuses, and the lines of standard error.
use Rattle.std.specs.Prelude.{ℕ, Bool, true, false, List, [], ◌++◌, codes, decimal}
use Rattle.heap_audit.specs.declared.audit_error.AuditError.{AuditError}
use Rattle.heap_audit.specs.declared.audit_error.AuditError.TheVariants as audits
use Rattle.program_text.specs.AsmError.{text_of_error}
use Rattle.program_text.specs.declared.errors.asm_error.AsmError.{AsmError}
use Rattle.program_text.specs.declared.errors.asm_error.AsmError.TheVariants as asm
use Rattle.ael_jobs.specs.declared.streams.reading.ReadError.{ReadError}
use Rattle.ael_jobs.specs.declared.streams.reading.ReadError.TheVariants as reads
use Rattle.ael_jobs.specs.declared.status.Status.{Status}
use Rattle.ael_jobs.specs.declared.status.Status.TheVariants.{BadOutput, Done, No, Text, LongWord, Usage, Ended, HeapFull, StepsOut, ReadFault, WriteFault, NoMemory, TooLong}

-- how a status is told: the exit status, the line of standard error, and whether that line is made
-- from numbers, for which memory may be wanting
pub record Telling : Type 0 where
  pub code : ℕ
  pub line : List ℕ
  pub is_made : Bool

-- by the exit status alone
abbrev pub silent : ℕ → Telling
silent code = record { code = code; line = []; is_made = false }

-- by a line that is always the same
abbrev pub fixed : ℕ → List ℕ → Telling
fixed code text = record { code = code; line = text ++ codes "\n"; is_made = false }

-- by a line that is made from numbers
abbrev pub numbered : ℕ → List ℕ → Telling
numbered code text = record { code = code; line = codes "ael: " ++ text ++ codes "\n"; is_made = true }

abbrev pub telling : Status → Telling
telling Done = silent 0
telling (Text number line) = numbered 1 (text_of_error (asm.Text number line))
telling (LongWord line) = numbered 1 (codes "line " ++ decimal line ++ codes ": word too long")
telling (BadOutput line) = numbered 1 (codes "line " ++ decimal line ++ codes ": error 10: bad output")
telling Usage = fixed 2 (codes "usage: ael asm, sim, run, concord or bench")
telling Ended = silent 3
telling (HeapFull asked room) = numbered 3 (codes "heap full asked " ++ decimal asked ++ codes " room " ++ decimal room)
telling StepsOut = fixed 4 (codes "ael: steps out")
telling ReadFault = fixed 5 (codes "ael: read fault")
telling WriteFault = fixed 6 (codes "ael: write fault")
telling NoMemory = fixed 7 (codes "ael: out of memory")
telling TooLong = fixed 8 (codes "ael: input too long")
telling No = silent 9

abbrev pub status_code : Status → ℕ
status_code status = (telling status).code

abbrev pub status_line : Status → List ℕ
status_line status = (telling status).line

abbrev pub is_made : Status → Bool
is_made status = (telling status).is_made

abbrev pub read_status : ReadError → Status
read_status reads.Fault = ReadFault
read_status reads.TooLong = TooLong
read_status reads.NoMemory = NoMemory

abbrev pub text_status : AsmError → Status
text_status (asm.Text number line) = Text number line
text_status asm.NoMemory = NoMemory

abbrev pub audit_status : AuditError → Status
audit_status audits.NoMemory = NoMemory
audit_status (audits.Bad line) = BadOutput line
