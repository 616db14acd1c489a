use Rattle.std.proofs.Common.{arith}
use Rattle.mutator_asm.specs.Line.{named_of}
use Rattle.program_text.proofs.Tokens.Names.{two_letters, three_letters}
use Rattle.program_text.proofs.text.line.named.Goals as goal

pub returns-in-jmp : goal.returns-in-jmp
unfolding named_of
returns-in-jmp c = rw (three_letters c.args.name.now 106 109 112 (search arith)) c.jump.ensures

pub returns-in-jz : goal.returns-in-jz
unfolding named_of
returns-in-jz c = rw (two_letters c.args.name.now 106 122 (search arith)) c.jz.ensures

pub returns-in-jal : goal.returns-in-jal
unfolding named_of
returns-in-jal c = rw (three_letters c.args.name.now 106 97 108 (search arith)) c.jal.ensures
