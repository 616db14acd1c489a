use Rattle.mutator_asm.proofs.Texts.OneReading.{some_reading_of}
use Rattle.mutator_asm.proofs.laws.some_reading.Goals as goal

pub returns : goal.returns
returns c = some_reading_of
