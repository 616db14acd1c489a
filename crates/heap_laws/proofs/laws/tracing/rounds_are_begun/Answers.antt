use Rattle.heap_laws.proofs.Tracing.TracingLoads.{reads_traced, reads_front}
use Rattle.heap_laws.proofs.laws.tracing.rounds_are_begun.Goals as goal

pub returns : goal.returns
returns c = record { traced = reads_traced; front = reads_front }
