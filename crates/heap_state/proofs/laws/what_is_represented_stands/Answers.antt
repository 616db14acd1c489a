use Rattle.heap_state.proofs.Represents.Represented.{represented_stands, represented_in_cycle}
use Rattle.heap_state.proofs.laws.what_is_represented_stands.Goals as goal

pub returns : goal.returns
returns c = record { stands = represented_stands; in_cycle = represented_in_cycle }
