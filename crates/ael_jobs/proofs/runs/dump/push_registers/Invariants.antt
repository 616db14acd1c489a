use Rattle.std.proofs.Common.{◌++◌}
use Rattle.std.specs.List.{flat_map}
use Rattle.std.specs.String.{string_bytes}
use Rattle.dump_text.specs.Text.{AreRegisters, words_line}
use Rattle.ael_jobs.proofs.Printed.Seeing.{IsSoBefore, TextsToldSoFar}
use Rattle.ael_jobs.proofs.runs.dump.push_registers.Given as goal

abbrev pub invariant-loop-m : goal.invariant-loop-m
invariant-loop-m g l =
    record {
      text : TextsToldSoFar words_line (string_bytes l.out) l.m (g.H.Report.told l.heap).dump.registers (string_bytes l.fn.out ++ flat_map words_line (g.H.Report.told l.heap).dump.registers);
      words : IsSoBefore AreRegisters l.m (g.H.Report.told l.heap).dump.registers;
    }
