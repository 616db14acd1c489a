use Rattle.heap_laws.proofs.Flipping.Flipped.{flip_keeps}
use Rattle.heap_laws.proofs.laws.flipping.epochs_are_flipped.Goals as goal

pub returns : goal.returns
returns c = flip_keeps
