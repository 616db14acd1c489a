use Rattle.heap_laws.proofs.Opening.Heap.{opening_stands}
use Rattle.heap_laws.proofs.laws.opening.opening_stands.Goals as goal

pub returns : goal.returns
returns c = opening_stands
