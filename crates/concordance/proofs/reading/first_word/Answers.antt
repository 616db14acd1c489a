use Rattle.std.proofs.Common.{rules, ◌≡◌, ◌∙◌, ℕ, Option, length, not, unwrap_or, sym, ap}
use borrow.Author.Tests.{tests}
use Rattle.std.specs.List.{position_from}
use Rattle.std.proofs.lemmas.Iterator.{YieldsList-from_slice}
use Rattle.std.proofs.lemmas.Iterator.Adapters.{position_from-zero}
use Rattle.std.proofs.lemmas.Iterator.Search.{position_from_yields_List}
use Rattle.concordance_text.specs.Words.{separates}
use Rattle.concordance.proofs.Pieces.FirstWord.{IsFirstOf, first_is, no_first}
use Rattle.concordance.proofs.reading.first_word.Goals.{After-split_at-2}
use Rattle.concordance.proofs.reading.first_word.Goals as goal

first : (c : After-split_at-2) → IsFirstOf c.args.line.now c.split_at-2.result.0.now c.split_at-2.result.1.now
first c =
    let begins : c.position.result ≡ position_from (λ b. not (separates b)) 0 c.args.line.now =
    position_from_yields_List (λ b. not (separates b)) _ _ c.position.result c.position.ensures.ran (YieldsList-from_slice c.args.line.now c.iter.ensures.rest) (λ x b q k. search (rules, tests)) ∙ position_from-zero (λ b. not (separates b)) c.args.line.now in
    let ends : c.position-2.result ≡ position_from separates 0 c.split_at.result.1.now =
    position_from_yields_List separates _ _ c.position-2.result c.position-2.ensures.ran (YieldsList-from_slice c.split_at.result.1.now c.iter-2.ensures.rest) (λ x b q k. search (rules, tests)) ∙ position_from-zero separates c.split_at.result.1.now in
    first_is c.args.line.now c.split_at.result.1.now c.split_at-2.result.0.now c.split_at-2.result.1.now c.in_ok-begin.begin c.unwrap_or-end.result (sym begins ∙ c.in_ok-begin.was) c.split_at.ensures.back
    (c.unwrap_or-end.ensures ∙ ap (λ (o : Option ℕ). unwrap_or o (length c.split_at.result.1.now)) ends) c.split_at-2.ensures.front c.split_at-2.ensures.back

pub returns-clause-word : goal.returns-clause-word
returns-clause-word c = (first c).words

pub returns-clause-behind : goal.returns-clause-behind
returns-clause-behind c = (first c).shorter

pub returns-in_err-begin-clause-none : goal.returns-in_err-begin-clause-none
returns-in_err-begin-clause-none c none =
    let begins : c.position.result ≡ position_from (λ b. not (separates b)) 0 c.args.line.now =
    position_from_yields_List (λ b. not (separates b)) _ _ c.position.result c.position.ensures.ran (YieldsList-from_slice c.args.line.now c.iter.ensures.rest) (λ x b q k. search (rules, tests)) ∙ position_from-zero (λ b. not (separates b)) c.args.line.now in
    no_first c.args.line.now (sym begins ∙ c.in_err-begin.was)
