use Rattle.heap_laws.proofs.Gate.GateReads.{reads_gate, sees_traced, sees_size, sizes_are_known}
use Rattle.heap_laws.proofs.laws.gating.passages_are_made_ready.Goals as goal

pub returns : goal.returns
returns c = record { gate = reads_gate; traced = sees_traced; size = sees_size; known = sizes_are_known }
