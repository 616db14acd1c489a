use Rattle.std.proofs.Common.{rules}
use Rattle.program_text.proofs.Tokens.Operands.{first}
use Rattle.program_text.proofs.text.line.line_from.Goals as goal

pub returns-in-len1-up : goal.returns-in-len1-up
returns-in-len1-up c = rw (first c.args.tokens.now c.in-len1-up.len_at_least) (search rules)
