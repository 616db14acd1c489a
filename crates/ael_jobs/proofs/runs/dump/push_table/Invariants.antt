use Rattle.std.proofs.Common.{◌++◌, codes}
use Rattle.std.specs.String.{string_bytes}
use Rattle.dump_text.specs.Text.{IsWord, table_lines, word_text}
use Rattle.ael_jobs.proofs.Printed.Seeing.{IsSoBefore, TextsToldSoFar}
use Rattle.ael_jobs.proofs.runs.dump.push_table.Given as goal

abbrev pub invariant-loop-place : goal.invariant-loop-place
invariant-loop-place g l =
    record {
      text : TextsToldSoFar (λ word. word_text word ++ codes "\n") (string_bytes l.out) l.place (g.H.Report.told l.heap).dump.words (string_bytes l.fn.out ++ table_lines (g.H.Report.told l.heap).dump.words);
      words : IsSoBefore IsWord l.place (g.H.Report.told l.heap).dump.words;
    }
