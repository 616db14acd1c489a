use Rattle.std.proofs.Common.{arith}
use Rattle.std.proofs.lemmas.Grind.{common_steps}
use Rattle.mutator_asm.specs.Line.{lines_of}
use Rattle.program_text.proofs.text.line.lines.Goals as goal

pub loop-bytes-preserved : goal.loop-bytes-preserved
loop-bytes-preserved c = grind (arith, common_steps)

pub returns : goal.returns
unfolding lines_of
returns c = grind (arith, common_steps)
