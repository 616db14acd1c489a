-- What a call of `audit` comes to if no end fails.
use Rattle.std.specs.Prelude.{◌≡◌, ◌⊎◌, ℕ, true, false, List, [], ◌++◌, codes}
use Rattle.mutator_asm.specs.declared.instr.Instr.{Instr}
use Rattle.mutator_asm.specs.declared.item.Item.{Item}
use Rattle.mutator_asm.specs.Text.{IsFault, IsText}
use Rattle.ael_jobs.specs.declared.arguments.job.Job.TheVariants.{Audit}
use Rattle.ael_jobs.specs.declared.arguments.options.AuditOptions.{AuditOptions}
use Rattle.ael_jobs.specs.declared.arguments.options.SimOptions.{SimOptions}
use Rattle.ael_jobs.specs.declared.status.Status.{Status}
use Rattle.ael_jobs.specs.declared.status.Status.TheVariants.{BadOutput, Done, NoMemory, Text}
use Rattle.ael_jobs.specs.Calls.Call.{Call}
use Rattle.ael_jobs.specs.Calls.Concordance.{CallTells}
use Rattle.ael_jobs.specs.Calls.Success.{NoEndFails}
use Rattle.ael_jobs.specs.Runs.Run.{IsRun, Scheduled}
use Rattle.ael_jobs.specs.Tasks.Audit.{HasBadOutput, HasTrueOutput, IsAudited}
use Rattle.ael_jobs.specs.Tasks.Division.{HasNoPart, text_in}

-- The exit status is 0 or 9, and the verdict is printed; or 1, and a fault of the text is told, or the first line of the part that isn't of
-- the form of an output; or 7, and that memory is wanting. But for 0 and 9 there is no output.
pub data AuditEnd (call : Call) (options : AuditOptions) (input : List ℕ) : Type 0 where
  VerdictTold : (output : List ℕ) (status : Status) (is : IsAudited options.turns input output status) (told : CallTells call output status) → AuditEnd call options input
  TextFaultTold : (number line : ℕ) (fault : IsFault (text_in input) number line) (told : CallTells call [] (Text number line)) → AuditEnd call options input
  BadOutputTold : (line : ℕ) (bad : HasBadOutput input line) (told : CallTells call [] (BadOutput line)) → AuditEnd call options input
  WantOfMemoryTold : (told : CallTells call [] NoMemory) → AuditEnd call options input

-- `audit` ends in one of these ways
abbrev pub AuditEnds : Call → Type 0
AuditEnds call = (options : AuditOptions) (input : List ℕ) → NoEndFails call (Audit options) input → AuditEnd call options input

-- if no line of the input is `.output` it is line 1 of the part that is wrong
abbrev pub MissingPartsAreWrongInLineOne : Type 0
MissingPartsAreWrongInLineOne = (input : List ℕ) (line : ℕ) → HasNoPart input → HasBadOutput input line → line ≡ 1

-- it says yes to a true output, or memory is wanting
abbrev pub SaysYesToTrueOutputs : Call → Type 0
SaysYesToTrueOutputs call = (options : AuditOptions) (input : List ℕ) → NoEndFails call (Audit options) input → HasTrueOutput options.turns input
    → CallTells call (codes "audit: yes\n") Done ⊎ (call.code ≡ 7)

-- ---- outputs of runs

-- the order and the dump are printed, and nothing besides
pub record TellsOrderAndDump (options : SimOptions) : Type 0 where
  pub order : options.order ≡ true
  pub dump : options.run.dump ≡ true
  pub no_cycles : options.run.cycles ≡ false
  pub no_checkpoint : options.run.snap ≡ false

-- a text, whose last line is ended, then a line `.output`, and then an output
abbrev pub audit_input : (lines output : List ℕ) → List ℕ
audit_input lines output = lines ++ codes "\n" ++ codes ".output\n" ++ output

-- what `sim --order --dump` prints of a program is a true output of it, by as many turns
abbrev pub OutputsAreTrue : Type 0
OutputsAreTrue = (options : SimOptions) (lines output : List ℕ) (program : List (List Instr)) (items : List Item) (status : Status) → TellsOrderAndDump options
    → IsText (lines ++ codes "\n") program items → IsRun (Scheduled options) program items output status → HasTrueOutput options.run.turns (audit_input lines output)
