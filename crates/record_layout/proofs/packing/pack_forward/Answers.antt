use Rattle.std.proofs.Common.{arith}
use Rattle.heap_words.specs.Word.{forward_word}
use Rattle.heap_words.proofs.Tags.{tag_of-forward_word}
use Rattle.record_layout.proofs.Joining.{forward_joined}
use Rattle.record_layout.proofs.Rereading.{forward_in-decode}
use Rattle.record_layout.proofs.packing.pack_forward.Goals as goal

pub returns-clause-word : goal.returns-clause-word
unfolding forward_word
returns-clause-word c =
    let f = c.args.f.now in
    rw (c.from.ensures, c.from-2.ensures) (forward_joined 3 f.len f.addr (omega arith) f.short (omega arith))

pub returns-clause-reads_back : goal.returns-clause-reads_back
returns-clause-reads_back c = forward_in-decode _ c.args.f.now (omega arith) (returns-clause-word c)

pub returns-clause-tag : goal.returns-clause-tag
returns-clause-tag c = rw (returns-clause-word c) (tag_of-forward_word _ _)
