use Rattle.std.proofs.Common.{arith}
use Rattle.program_text.proofs.Tokens.Names.{eight_letters, nine_letters}
use Rattle.program_text.proofs.text.line.line_by_first.Goals as goal

pub returns-in-46 : goal.returns-in-46
returns-in-46 c = rw (eight_letters c.args.first.now 46 109 117 116 97 116 111 114 (search arith), ← c.begins.ensures) c.plain.ensures

pub returns-in_ok-schedules-in-46-2 : goal.returns-in_ok-schedules-in-46-2
returns-in_ok-schedules-in-46-2 c = rw (nine_letters c.args.first.now 46 115 99 104 101 100 117 108 101 (search arith), ← c.in_ok-schedules-in-46-2.ensures) c.plain-in-46-2.ensures
