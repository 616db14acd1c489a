use Rattle.std.proofs.Common.{◌++◌}
use Rattle.std.specs.Prelude.{string_bytes}
use Rattle.plain_heap.specs.Print.{lines_seen}
use Rattle.ael_jobs.specs.Runs.Run.{HasFitEnd}
use Rattle.ael_jobs.proofs.Printed.Seeing.{IsSoBefore, LinesToldSoFar}
use Rattle.ael_jobs.proofs.runs.mutators.push_mutators.Given as goal

abbrev pub invariant-loop-m : goal.invariant-loop-m
invariant-loop-m g l = record {
  lines : LinesToldSoFar (string_bytes l.output) l.m (g.H.Report.told l.heap).seen (string_bytes l.fn.output ++ lines_seen 0 (g.H.Report.told l.heap).seen);
  ends : IsSoBefore HasFitEnd l.m (g.H.Report.told l.heap).seen;
}
