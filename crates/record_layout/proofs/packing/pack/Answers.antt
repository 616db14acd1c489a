use Rattle.std.proofs.Common.{arith}
use Rattle.heap_words.specs.Word.{header_word}
use Rattle.heap_words.proofs.Tags.{tag_of-header_word}
use Rattle.heap_words.proofs.KindCodes.{kind_code-lt}
use Rattle.record_layout.proofs.Joining.{header_joined}
use Rattle.record_layout.proofs.Rereading.{header_in-decode}
use Rattle.record_layout.proofs.packing.pack.Goals as goal

pub returns-clause-word : goal.returns-clause-word
unfolding header_word
returns-clause-word c =
    let h = c.args.h.now in
    rw (c.kind_bits.ensures, c.from.ensures, c.from-2.ensures)
    (header_joined _ h.len h.serial h.mutator (kind_code-lt h.kind) h.short h.counted (omega arith))

pub returns-clause-reads_back : goal.returns-clause-reads_back
returns-clause-reads_back c = header_in-decode _ c.args.h.now (returns-clause-word c)

pub returns-clause-tag : goal.returns-clause-tag
returns-clause-tag c = rw (returns-clause-word c) (tag_of-header_word _ _ _ _)
