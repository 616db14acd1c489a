use Rattle.heap_laws.proofs.Steps.Composites.{registers_are_passed, registers_find_forwards, registers_are_settled}
use Rattle.heap_laws.proofs.laws.composing.registers_are_settled.Goals as goal

pub returns : goal.returns
returns c = record { passed = registers_are_passed; found = registers_find_forwards; settled = registers_are_settled }
