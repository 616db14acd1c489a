use Rattle.std.proofs.Common.{◌≡◌, length}
use Rattle.ael_jobs.proofs.Inputs.Growing.{Wrote}
use Rattle.ael_jobs.proofs.streams.writing.write_all.Given as goal

abbrev pub invariant-loop-rest : goal.invariant-loop-rest
invariant-loop-rest g l = record {
  wrote : Wrote (g.K.Sink.held l.fn.sink) (g.K.Sink.held l.sink) l.fn.bytes l.rest;
  steady : g.K.Sink.faults l.sink ≡ g.K.Sink.faults l.fn.sink;
}

abbrev pub decreases-loop-rest : goal.decreases-loop-rest
decreases-loop-rest g l = length l.rest
