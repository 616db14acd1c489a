use Rattle.std.proofs.Common.{rules, ◌≡◌, ◌∙◌, ℕ, Option, length, unwrap_or, ap, arith}
use borrow.Author.Tests.{tests}
use Rattle.std.specs.List.{position_from}
use Rattle.std.proofs.lemmas.Iterator.{YieldsList-from_slice}
use Rattle.std.proofs.lemmas.Iterator.Adapters.{position_from-zero}
use Rattle.std.proofs.lemmas.Iterator.Search.{position_from_yields_List}
use Rattle.concordance_text.specs.Words.{ends_line}
use Rattle.concordance_text.proofs.FirstLine.{all_behind, begins_with, none_behind}
use Rattle.concordance_text.proofs.Pieces.{CutsAtFirst, cuts_at_first}
use Rattle.concordance_text.proofs.lines.first_line.Goals.{After-split_at}
use Rattle.concordance_text.proofs.lines.first_line.Goals as goal

cut : (c : After-split_at) → CutsAtFirst ends_line c.args.text.now c.split_at.result.0.now c.split_at.result.1.now
cut c =
    let ends : c.position.result ≡ position_from ends_line 0 c.args.text.now =
    position_from_yields_List ends_line _ _ c.position.result c.position.ensures.ran (YieldsList-from_slice c.args.text.now c.iter.ensures.rest) (λ x b q k. search (rules, tests)) ∙ position_from-zero ends_line c.args.text.now in
    cuts_at_first ends_line _ _ _ c.unwrap_or-end.result (c.unwrap_or-end.ensures ∙ ap (λ (o : Option ℕ). unwrap_or o (length c.args.text.now)) ends) c.split_at.ensures.front c.split_at.ensures.back

pub returns-in_default-clause-line : goal.returns-in_default-clause-line
returns-in_default-clause-line c =
    let below = c.in_default.len_below in
    begins_with _ _ _ _ (cut (goal.at.returns-in_default-clause-line c).After-split_at) (none_behind c.split_at.result.1.now (omega (arith, below)))

pub returns-in_default-len1-up-clause-line : goal.returns-in_default-len1-up-clause-line
returns-in_default-len1-up-clause-line c =
    let above = c.in_default-len1-up.len_at_least in
    begins_with _ _ _ _ (cut (goal.at.returns-in_default-len1-up-clause-line c).After-split_at) (all_behind c.split_at.result.1.now (omega (arith, above)))
