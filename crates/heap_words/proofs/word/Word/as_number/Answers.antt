use Rattle.std.proofs.Common.{◌∙◌, sym, arith}
use Rattle.heap_words.proofs.TaggedWords.{number_in-number, number_in-none, number_in-spelling}
use Rattle.heap_words.proofs.word.Word.as_number.Goals as goal

pub returns-in-Number-clause-decoded : goal.returns-in-Number-clause-decoded
returns-in-Number-clause-decoded c = sym (number_in-number c.args.self.0 (sym c.tag.ensures ∙ c.in-Number.is) (omega arith))

pub returns-in-Number-clause-one_spelling : goal.returns-in-Number-clause-one_spelling
returns-in-Number-clause-one_spelling c =
    rw (← returns-in-Number-clause-decoded c) at (number_in-spelling c.args.self.0)

pub returns-in_default-clause-decoded : goal.returns-in_default-clause-decoded
returns-in_default-clause-decoded c = sym (number_in-none c.args.self.0 (λ tag. c.in_default.not-Number (c.tag.ensures ∙ tag)))
