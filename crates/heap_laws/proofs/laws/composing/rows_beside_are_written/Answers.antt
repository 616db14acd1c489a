use Rattle.heap_laws.proofs.Steps.Composing.{steps_write_beside, plain_steps_write_beside}
use Rattle.heap_laws.proofs.laws.composing.rows_beside_are_written.Goals as goal

pub returns : goal.returns
returns c = record { kept = steps_write_beside; plain = plain_steps_write_beside }
