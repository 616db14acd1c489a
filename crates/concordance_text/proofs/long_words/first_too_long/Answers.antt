use Rattle.std.proofs.Common.{arith, ◌≡◌, Some, ◌∙◌, sym, ap, length}
use Rattle.concordance_text.specs.Words.{has_long_word, lines_of}
use Rattle.concordance_text.proofs.LongWords.{none, number_found, number_only}
use Rattle.concordance_text.proofs.long_words.first_too_long.Goals as goal

pub returns-in_err-place-clause-exactly : goal.returns-in_err-place-clause-exactly
returns-in_err-place-clause-exactly c line = (
  λ h. absurd (let n = c.from_residual.ensures in cc),
  λ f. absurd (let n = c.in_err-place.was in let s = number_only c.args.text.now line f in cc),
)

pub returns-in_err-place-clause-none : goal.returns-in_err-place-clause-none
returns-in_err-place-clause-none c _ = none has_long_word (lines_of c.args.text.now) 0 (sym c.first_place.ensures.first ∙ c.in_err-place.was)

pub returns-clause-exactly : goal.returns-clause-exactly
returns-clause-exactly c line =
    let e : _ ≡ Some c.in_ok-place.place = sym c.first_place.ensures.first ∙ c.in_ok-place.was in (
      λ h. number_found c.args.text.now c.in_ok-place.place line e cc,
      λ f. let s = number_only c.args.text.now line f in let n : c.in_ok-place.place ≡ length f.before = cc in ap Some (omega (arith, f.number_is)),
    )
