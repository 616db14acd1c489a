use Rattle.std.proofs.Common.{◌++◌, codes, append_assoc}
use lib.Utf8.{encode}
use Rattle.dump_text.specs.Text.{IsWord, word_text}
use Rattle.ael_jobs.proofs.Printed.Seeing.{so_more, told_more}
use Rattle.ael_jobs.proofs.runs.dump.push_table.Goals as goal

pub loop-place-preserved : goal.loop-place-preserved
unfolding encode
loop-place-preserved g c =
    record {
      text = rw (c.in_ok-push.ensures.bytes, c.in_ok-push_word.ensures.text, append_assoc) (told_more (λ word. word_text word ++ codes "\n") _ _ _ _ _ c.word.ensures c.loop-place.invariant.text);
      words = so_more IsWord _ _ _ c.word.ensures c.in_ok-push_word.ensures.word c.loop-place.invariant.words;
    }
