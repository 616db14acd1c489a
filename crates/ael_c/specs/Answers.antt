-- What C is told, and by which codes.
use Rattle.std.specs.Prelude.{ℕ, ◌-◌, ℤ, pos, negsuc, Option, Some, None, if◌then◌else◌}
use Rattle.plain_state.specs.declared.end.End.{End}
use Rattle.plain_state.specs.declared.end.End.TheVariants as ends
use Rattle.mutator_asm.specs.declared.instr.Instr.{Instr}
use Rattle.mutator_asm.specs.declared.instr.Instr.TheVariants.{Li}
use Rattle.mutator_asm.specs.Program.{is_number}
use Rattle.gc_worker.specs.declared.calls.did.Did.{Did}
use Rattle.gc_worker.specs.declared.calls.did.Did.TheVariants as dids
use Rattle.ael_threads.specs.declared.mutator.refused.Refused.{Refused}
use Rattle.ael_threads.specs.declared.mutator.refused.Refused.TheVariants as reasons
use Rattle.ael_c.specs.declared.answer.Answer.{Answer}
use Rattle.ael_c.specs.declared.answer.Answer.TheVariants as answers

-- ---- codes

-- a number below 0
abbrev pub minus : ℕ → ℤ
minus n = negsuc (n - 1)

abbrev pub end_code : End → ℤ
end_code ends.Halt = minus 16
end_code ends.NotPointer = minus 17
end_code ends.NotNumber = minus 18
end_code ends.OutOfRange = minus 19
end_code ends.WeakCell = minus 20
end_code ends.IntoRaw = minus 21
end_code ends.ZeroDivisor = minus 22
end_code (ends.HeapFull asked room live) = minus 23
end_code ends.JumpOut = minus 24
end_code ends.TurnsOut = minus 25
end_code ends.OutputFull = minus 26

abbrev pub code_of : Answer → ℤ
code_of answers.Done = pos 0
code_of answers.Again = pos 1
code_of answers.Number = pos 2
code_of answers.Pointer = pos 3
code_of answers.Left = pos 4
code_of answers.BadHandle = minus 1
code_of answers.NoMemory = minus 2
code_of answers.InUse = minus 3
code_of answers.BadSize = minus 4
code_of answers.BadInstruction = minus 5
code_of answers.BadRegister = minus 6
code_of answers.Unanswered = minus 7
code_of answers.RecordsOut = minus 8
code_of answers.TooBig = minus 13
code_of (answers.Ended end) = end_code end

-- ---- answers

-- what some acts for a call came to, if they answered it
abbrev pub answer_by : Option Did → Answer
answer_by None = answers.Again
answer_by (Some dids.Done) = answers.Done
answer_by (Some (dids.Trap end)) = answers.Ended end

-- the same, as a mutator that leaves tells it: `halt` is its own call, and it goes on
abbrev pub leaving_by : Option Did → Answer
leaving_by (Some (dids.Trap ends.Halt)) = answers.Again
leaving_by did = answer_by did

-- what is wrong with an operand of an instruction that isn't valid: the number is 2^62 or more, or else a register is above 7
abbrev pub wrong_operand : Instr → Answer
wrong_operand (Li d k) = if is_number k then answers.BadRegister else answers.TooBig
wrong_operand instr = answers.BadRegister

-- why a call of this instruction is refused
abbrev pub answer_to : Instr → Refused → Answer
answer_to instr (reasons.Ended end) = answers.Ended end
answer_to instr reasons.Calling = answers.Unanswered
answer_to instr reasons.Operand = wrong_operand instr
answer_to instr reasons.Records = answers.RecordsOut
answer_to instr reasons.Printing = answers.BadInstruction
