use Rattle.heap_laws.proofs.Gate.Scanner.{takes_epoch_of_gate}
use Rattle.heap_laws.proofs.laws.gating.epochs_are_taken.Goals as goal

pub returns : goal.returns
returns c = takes_epoch_of_gate
