use Rattle.std.proofs.Common.{arith}
use Rattle.heap_words.specs.Word.{busy_word}
use Rattle.heap_words.proofs.Tags.{tag_of-busy_word}
use Rattle.record_layout.proofs.Joining.{forward_joined}
use Rattle.record_layout.proofs.Rereading.{busy_in-decode}
use Rattle.record_layout.proofs.packing.pack_busy.Goals as goal

pub returns-clause-word : goal.returns-clause-word
unfolding busy_word
returns-clause-word c =
    let b = c.args.b.now in
    rw (c.from.ensures, c.from-2.ensures) (forward_joined 7 b.len b.worker (omega arith) b.short (omega arith))

pub returns-clause-reads_back : goal.returns-clause-reads_back
returns-clause-reads_back c = busy_in-decode _ c.args.b.now (omega arith) (returns-clause-word c)

pub returns-clause-tag : goal.returns-clause-tag
returns-clause-tag c = rw (returns-clause-word c) (tag_of-busy_word _ _)
