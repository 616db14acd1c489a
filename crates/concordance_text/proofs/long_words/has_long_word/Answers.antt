use Rattle.std.proofs.Common.{rules, ◌∙◌}
use borrow.Author.Tests.{tests}
use Rattle.std.specs.List.{slice_split}
use Rattle.std.proofs.lemmas.Iterator.Search.{any_from_yields_List}
use Rattle.std.proofs.lemmas.Iterator.Splits.{YieldsList-from_slice_split}
use Rattle.concordance_text.specs.Words.{is_too_long, separates}
use Rattle.concordance_text.proofs.LongWords.{long_runs}
use Rattle.concordance_text.proofs.long_words.has_long_word.Goals as goal

pub returns : goal.returns
returns c =
    any_from_yields_List is_too_long _ _ c.any.result c.any.ensures.ran
    (YieldsList-from_slice_split _ separates c.args.line.now c.split.ensures.rest c.split.ensures.done c.split.ensures.closure (λ x b q k. search (rules, tests)))
    (λ x b q k. search (rules, tests))
    ∙ long_runs (slice_split separates c.args.line.now)
