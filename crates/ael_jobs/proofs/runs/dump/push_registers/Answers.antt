use Rattle.std.proofs.Common.{rules}
use Rattle.dump_text.specs.Text.{AreRegisters, words_line}
use Rattle.ael_jobs.proofs.Printed.Seeing.{so_more, told_more}
use Rattle.ael_jobs.proofs.runs.dump.push_registers.Goals as goal

pub loop-m-preserved : goal.loop-m-preserved
loop-m-preserved g c = record {
  text = rw c.in_ok-push_words.ensures.text (told_more words_line _ _ _ _ _ c.registers.ensures c.loop-m.invariant.text);
  words = so_more AreRegisters _ _ _ c.registers.ensures (search rules, c.in_ok-push_words.ensures.words) c.loop-m.invariant.words;
}
