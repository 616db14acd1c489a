use Rattle.std.proofs.Common.{sym}
use Rattle.mutator_asm.specs.Token.{is_semicolon}
use Rattle.mutator_asm.proofs.Lists.Firsts.{found_before, found_whole}
use Rattle.program_text.proofs.text.token.before_comment.Goals as goal

pub returns-in-Some : goal.returns-in-Some
returns-in-Some c = found_before is_semicolon c.args.line.now c.in-Some.at (sym c.in-Some.ensures)

pub returns-in-None : goal.returns-in-None
returns-in-None c = found_whole is_semicolon c.args.line.now (sym c.in-None.ensures)
