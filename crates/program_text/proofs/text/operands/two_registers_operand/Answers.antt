use Rattle.std.proofs.Common.{arith}
use Rattle.program_text.proofs.Tokens.Operands.{three}
use Rattle.program_text.proofs.text.operands.two_registers_operand.Goals as goal

pub returns-in_err-d-in-len3 : goal.returns-in_err-d-in-len3
returns-in_err-d-in-len3 c = grind (arith, three)

pub returns-in_err-a-in-len3 : goal.returns-in_err-a-in-len3
returns-in_err-a-in-len3 c = grind (arith, three)

pub returns-in_err-operand-in-len3 : goal.returns-in_err-operand-in-len3
returns-in_err-operand-in-len3 c = grind (arith, three)

pub returns-in_ok-operand-in-len3 : goal.returns-in_ok-operand-in-len3
returns-in_ok-operand-in-len3 c = grind (arith, three)
