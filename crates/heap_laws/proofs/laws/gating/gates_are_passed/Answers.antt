use Rattle.heap_laws.proofs.Gate.Passages.{passes_gate}
use Rattle.heap_laws.proofs.laws.gating.gates_are_passed.Goals as goal

pub returns : goal.returns
returns c = passes_gate
