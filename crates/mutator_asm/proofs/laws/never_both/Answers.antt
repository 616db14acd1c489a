use Rattle.mutator_asm.specs.Line.{lines_of}
use Rattle.mutator_asm.proofs.Texts.OneReading.{no_fault_in}
use Rattle.mutator_asm.proofs.laws.never_both.Goals as goal

pub returns : goal.returns
returns c = λ bytes code schedule number line p f. no_fault_in (lines_of bytes) number line p.clean p.begun f
