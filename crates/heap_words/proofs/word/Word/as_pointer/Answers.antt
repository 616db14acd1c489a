use Rattle.std.proofs.Common.{◌∙◌, sym}
use Rattle.heap_words.proofs.TaggedWords.{pointer_in-narrowed, pointer_in-none, pointer_in-spelling}
use Rattle.heap_words.proofs.word.Word.as_pointer.Goals as goal

pub returns-in-Pointer-clause-decoded : goal.returns-in-Pointer-clause-decoded
returns-in-Pointer-clause-decoded c =
    c.ok.ensures.value ∙ pointer_in-narrowed c.try_from.result c.args.self.0 (sym c.tag.ensures ∙ c.in-Pointer.is) c.try_from.ensures

pub returns-in-Pointer-clause-one_spelling : goal.returns-in-Pointer-clause-one_spelling
returns-in-Pointer-clause-one_spelling c = rw (returns-in-Pointer-clause-decoded c) (pointer_in-spelling c.args.self.0)

pub returns-in_default-clause-decoded : goal.returns-in_default-clause-decoded
returns-in_default-clause-decoded c = sym (pointer_in-none c.args.self.0 (λ tag. c.in_default.not-Pointer (c.tag.ensures ∙ tag)))
