use Rattle.std.proofs.Common.{◌∙◌, ap, sym}
use Rattle.heap_words.specs.Word.{tag_of}
use Rattle.heap_words.proofs.Tags.{tag_of-header_word}
use Rattle.record_layout.proofs.Rereading.{header_in-decode, header_in-none}
use Rattle.record_layout.proofs.WordParts.{header_word-parts}
use Rattle.record_layout.proofs.reading.read.Goals as goal

pub returns-in-Header-clause-one_spelling : goal.returns-in-Header-clause-one_spelling
returns-in-Header-clause-one_spelling c =
    header_word-parts c.args.w c.kind_of.result (sym c.tag.ensures ∙ c.in-Header.is) c.kind_of.ensures

pub returns-in-Header-clause-decoded : goal.returns-in-Header-clause-decoded
returns-in-Header-clause-decoded c = sym (header_in-decode c.args.w _ (returns-in-Header-clause-one_spelling c))

pub returns-in_default-clause-decoded : goal.returns-in_default-clause-decoded
returns-in_default-clause-decoded c = sym (header_in-none c.args.w (λ kind len serial mutator is.
    c.in_default.not-Header (c.tag.ensures ∙ ap tag_of is ∙ tag_of-header_word kind len serial mutator)))
