use Rattle.std.proofs.Common.{◌≡◌, ◌*◌, ◌%◌, ◌^◌, arith}
use Rattle.std.proofs.lemmas.Nat.{or_shifted}
use Rattle.heap_words.specs.Word.{pointer_word}
use Rattle.heap_words.proofs.Decoding.{decode-pointer_word}
use Rattle.heap_words.proofs.word.Word.pointer.Goals as goal

pub returns-clause-word : goal.returns-clause-word
unfolding pointer_word
returns-clause-word c =
    let whole : c.from.result * 4 % 2 ^ 64 ≡ c.from.result * 2 ^ 2 = omega arith in
    rw (whole, or_shifted c.from.result 2 1 (omega arith)) (omega arith)

pub returns-clause-reads_back : goal.returns-clause-reads_back
returns-clause-reads_back c = rw (returns-clause-word c) (decode-pointer_word c.args.address (omega arith))
