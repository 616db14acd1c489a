use Rattle.mutator_asm.specs.Line.{lines_of}
use Rattle.mutator_asm.proofs.Texts.OneReading.{one_fault_in}
use Rattle.mutator_asm.proofs.laws.one_fault.Goals as goal

pub returns : goal.returns
returns c = λ bytes. one_fault_in (lines_of bytes)
