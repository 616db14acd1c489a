use Rattle.std.proofs.Common.{◌≡◌, ℕ, List, Option, Some, None, Result, Err, IsErrOf, ◌↔◌, refl}
use Rattle.concordance_text.specs.Words.{IsFirstTooLong}
use Rattle.concordance.specs.declared.error.ConcordError.{ConcordError}
use Rattle.concordance.specs.declared.error.ConcordError.TheVariants.{WordTooLong}
use Rattle.concordance.proofs.making.concord.Goals as goal

module _ (text : List ℕ) (found : Option ℕ) (exactly : (n : ℕ) → (found ≡ Some n) ↔ IsFirstTooLong text n) (line : ℕ) where
  -- the first line that has too long a word is told
  told_long : {T : Type 0} (first : ℕ) → found ≡ Some first → IsErrOf {T = T} (Err (WordTooLong first)) (WordTooLong line) ↔ IsFirstTooLong text line
  told_long first is = (λ told. (exactly line).0 cc, λ long. let same = (exactly line).1 long in cc)

  -- if there is none, nobody tells one
  never_long : {T : Type 0} (r : Result T ConcordError) → found ≡ None → (IsErrOf r (WordTooLong line) → ⊥) → IsErrOf r (WordTooLong line) ↔ IsFirstTooLong text line
  never_long r none never = (λ told. absurd (never told), λ long. let same = (exactly line).1 long in absurd cc)

pub returns-in-Some-clause-too_long : goal.returns-in-Some-clause-too_long
returns-in-Some-clause-too_long g c = λ line. told_long c.args.text.now _ c.in-Some.ensures.exactly line c.in-Some.line refl

pub returns-in-Err-clause-too_long : goal.returns-in-Err-clause-too_long
returns-in-Err-clause-too_long g c = λ line. never_long c.args.text.now None c.in_default.ensures.exactly line c.make-in-Err.result refl (c.make-in-Err.ensures.short line)

pub returns-in_default-make-clause-too_long : goal.returns-in_default-make-clause-too_long
returns-in_default-make-clause-too_long g c = λ line. never_long c.args.text.now None c.in_default.ensures.exactly line (Err c.in-Err.error) refl (c.in-Err.ensures.short line)

pub returns-in_default-make-2-clause-too_long : goal.returns-in_default-make-2-clause-too_long
returns-in_default-make-2-clause-too_long g c = λ line. never_long c.args.text.now None c.in_default.ensures.exactly line (Err c.in-Err.error) refl (c.in-Err.ensures.short line)

pub returns-in_default-make-3-clause-too_long : goal.returns-in_default-make-3-clause-too_long
returns-in_default-make-3-clause-too_long g c = λ line. never_long c.args.text.now None c.in_default.ensures.exactly line c.make.result refl (c.make.ensures.short line)
