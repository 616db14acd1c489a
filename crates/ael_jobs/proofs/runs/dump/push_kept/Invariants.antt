use Rattle.std.proofs.Common.{◌++◌}
use Rattle.std.specs.List.{flat_map}
use Rattle.std.specs.String.{string_bytes}
use Rattle.dump_text.specs.Text.{AreKept, kept_line}
use Rattle.ael_jobs.proofs.Printed.Seeing.{IsSoBefore, TextsToldSoFar}
use Rattle.ael_jobs.proofs.runs.dump.push_kept.Given as goal

abbrev pub invariant-loop-w : goal.invariant-loop-w
invariant-loop-w g l =
    record {
      text : TextsToldSoFar kept_line (string_bytes l.out) l.w (g.H.Report.told l.heap).dump.kept (string_bytes l.fn.out ++ flat_map kept_line (g.H.Report.told l.heap).dump.kept);
      words : IsSoBefore AreKept l.w (g.H.Report.told l.heap).dump.kept;
    }
