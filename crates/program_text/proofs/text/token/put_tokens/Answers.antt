use Rattle.std.proofs.Common.{◌++◌, ap, ◌∙◌, rules, tests}
use Rattle.std.proofs.lemmas.Iterator.Consumers.{YieldsList-from_filter, YieldsList-at}
use Rattle.std.proofs.lemmas.Iterator.Splits.{YieldsList-from_slice_split}
use Rattle.mutator_asm.specs.Token.{is_blank, tokens_of}
use Rattle.program_text.proofs.Lists.Views.{map_from_extend}
use Rattle.program_text.proofs.text.token.put_tokens.Goals as goal

pub returns : goal.returns
unfolding tokens_of
returns c = rw (← c.before_comment.ensures) (map_from_extend c.extend.result c.extend.ensures.ran (λ xs extended. extended.0 ∙ ap (λ old. old ++ xs) c.clear.ensures.items) (YieldsList-from_filter _ _ (YieldsList-at c.filter.ensures.source (YieldsList-from_slice_split _ is_blank c.before_comment.result.now c.split.ensures.rest c.split.ensures.done c.split.ensures.closure (λ x r q k. search (rules, tests)))) c.filter.ensures.closure (λ x r q k. search (rules, tests))))
