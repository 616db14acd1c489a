-- Why an instruction can't be begun.
use Rattle.std.specs.Prelude.{ℕ, ◌&&◌, Bool, true, false, Option, Some, None, nat_le, not, if◌then◌else◌}
use Rattle.plain_state.specs.declared.end.End.{End}
use Rattle.mutator_asm.specs.declared.instr.Instr.{Instr}
use Rattle.mutator_asm.specs.declared.instr.Instr.TheVariants.{New, Raw, Mix, Weak}
use Rattle.mutator_asm.specs.Program.{is_valid}
use Rattle.gc_worker.specs.declared.task.Task.{Task}
use Rattle.gc_worker.specs.Steps.Stepped.{is_output}
use Rattle.ael_threads.specs.declared.mutator.refused.Refused.{Refused}
use Rattle.ael_threads.specs.declared.mutator.refused.Refused.TheVariants.{Ended, Calling, Operand, Records, Printing}
use Rattle.ael_threads.specs.declared.mutator.refused.TheConstants.{MOST_RECORDS}
use Rattle.ael_threads.specs.Seats.{Seated}

-- the instruction makes a record, if it doesn't end its mutator
abbrev pub makes_record : Instr → Bool
makes_record (New d x) = true
makes_record (Raw d x) = true
makes_record (Mix d fields raw) = true
makes_record (Weak d a) = true
makes_record instr = false

-- no serial is left for the record that it makes
abbrev pub lacks_serial : Instr → (serial : ℕ) → Bool
lacks_serial instr serial = makes_record instr && nat_le MOST_RECORDS serial

-- it prints a number, and mutators of the heap may not
abbrev pub may_not_print : Instr → (prints : Bool) → Bool
may_not_print instr prints = is_output instr && not prints

-- the first reason of a mutator with this end, this task and so many records, in a heap whose mutators may print or may not
abbrev pub refusal_by : Instr → Option End → Option Task → (serial : ℕ) → (prints : Bool) → Option Refused
refusal_by instr (Some end) task serial prints = Some (Ended end)
refusal_by instr None (Some task) serial prints = Some Calling
refusal_by instr None None serial prints =
    if is_valid instr then (if lacks_serial instr serial then Some Records else (if may_not_print instr prints then Some Printing else None)) else Some Operand

abbrev pub refusal : Seated → Instr → Option Refused
refusal a instr = refusal_by instr a.worker.account.end a.worker.task a.worker.account.serial a.knows.plan.prints
