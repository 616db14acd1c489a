use Rattle.std.proofs.Common.{arith}
use Rattle.heap_words.specs.Word.{number_word}
use Rattle.heap_words.proofs.Decoding.{decode-number_word}
use Rattle.heap_words.proofs.word.Word.number.Goals as goal

pub returns-clause-word : goal.returns-clause-word
unfolding number_word
returns-clause-word c = omega arith

pub returns-clause-reads_back : goal.returns-clause-reads_back
returns-clause-reads_back c = rw (returns-clause-word c) (decode-number_word c.args.n (omega arith))
