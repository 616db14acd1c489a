use Rattle.std.proofs.Common.{arith}
use Rattle.program_text.proofs.Tokens.Operands.{two}
use Rattle.program_text.proofs.text.operands.register_number.Goals as goal

pub returns-in_err-d-in-len2 : goal.returns-in_err-d-in-len2
returns-in_err-d-in-len2 c = grind (arith, two)

pub returns-in_err-number-in-len2 : goal.returns-in_err-number-in-len2
returns-in_err-number-in-len2 c = grind (arith, two)

pub returns-in_ok-number-in-len2 : goal.returns-in_ok-number-in-len2
returns-in_ok-number-in-len2 c = grind (arith, two)
