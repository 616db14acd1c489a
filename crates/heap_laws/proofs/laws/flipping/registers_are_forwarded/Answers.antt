use Rattle.heap_laws.proofs.Flipping.Registers.{passes_register, asks_for_register, forwards_register}
use Rattle.heap_laws.proofs.laws.flipping.registers_are_forwarded.Goals as goal

pub returns : goal.returns
returns c = record { passed = passes_register; asked = asks_for_register; forwarded = forwards_register }
