use Rattle.std.proofs.Common.{arith}
use Rattle.program_text.proofs.Tokens.Operands.{five}
use Rattle.program_text.proofs.text.operands.registers_operand_registers.Goals as goal

pub returns-in_err-d-in-len5 : goal.returns-in_err-d-in-len5
returns-in_err-d-in-len5 c = grind (arith, five)

pub returns-in_err-a-in-len5 : goal.returns-in_err-a-in-len5
returns-in_err-a-in-len5 c = grind (arith, five)

pub returns-in_err-b-in-len5 : goal.returns-in_err-b-in-len5
returns-in_err-b-in-len5 c = grind (arith, five)
