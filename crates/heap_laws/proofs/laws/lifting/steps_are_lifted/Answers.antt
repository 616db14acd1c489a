use Rattle.heap_laws.proofs.Lifting.Laws.{steps_are_lifted, plain_steps_are_lifted, sizes_are_lifted, flips_are_lifted}
use Rattle.heap_laws.proofs.laws.lifting.steps_are_lifted.Goals as goal

pub returns : goal.returns
returns c = record { kept = steps_are_lifted; plain = plain_steps_are_lifted; sizes = sizes_are_lifted; flips = flips_are_lifted }
