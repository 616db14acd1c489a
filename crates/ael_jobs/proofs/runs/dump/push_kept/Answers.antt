use Rattle.dump_text.specs.Text.{AreKept, kept_line}
use Rattle.ael_jobs.proofs.Printed.Seeing.{so_more, told_more}
use Rattle.ael_jobs.proofs.runs.dump.push_kept.Goals as goal

pub loop-w-preserved : goal.loop-w-preserved
loop-w-preserved g c =
    let words = c.in_ok-push_words.ensures.words in
    record {
      text = rw c.in_ok-push_words.ensures.text (told_more kept_line _ _ _ _ _ c.kept-header.ensures c.loop-w.invariant.text);
      words = so_more AreKept _ _ _ c.kept-header.ensures (words.0, words.1.0) c.loop-w.invariant.words;
    }
