use Rattle.std.proofs.Common.{◌≡◌, ◌≢◌, ℕ, List, get_or, ⊎_elim, ap, sym, ◌∙◌, refl, arith}
use Rattle.std.proofs.lemmas.Bool.{cases_eq}
use Rattle.plain_state.specs.declared.value.Value.TheVariants.{Number}
use Rattle.concordance.proofs.Desks.ComparedLetters.{compared, same_number, stays_on}
use Rattle.concordance.proofs.Lists.Letters.{agree_all}
use Rattle.concordance.proofs.clerk.Clerk.has_letters.Goals as goal

pub returns-then-not-holds-clause-answer : goal.returns-then-not-holds-clause-answer
returns-then-not-holds-clause-answer g c letters is same =
    let i = c.loop-letter.invariant in (
      (λ e. absurd (cc)),
      λ eq.
          let n = compared c.args.self.now c.loop-letter.self c.does.new.self c.loop-letter.place i.0 c.does.ensures.desk letters is in
          let letter : get_or letters c.loop-letter.place 0 ≡ c.from.result = ap (λ (p : ℕ). get_or letters p 0) i.1 ∙ (ap (λ (ls : List ℕ). get_or ls c.loop-letter.letter-index 0) eq ∙ sym c.from.ensures) in
          let yes = c.holds.ensures.1 (n ∙ ap Number letter) in
          absurd (let no = c.if-not-holds.true in cc),
    )

pub loop-letter-preserved : goal.loop-letter-preserved
loop-letter-preserved g c =
    let i = c.loop-letter.invariant in (
      stays_on c.args.self.now c.loop-letter.self c.does.new.self c.loop-letter.place i.0 c.does.ensures.desk c.does.ensures.same c.does.ensures.lone,
      (let e = i.1 in omega (arith, e)),
      λ letters is same k less. ⊎_elim
          (λ (here : k ≡ c.loop-letter.letter-index).
          let n = compared c.args.self.now c.loop-letter.self c.does.new.self c.loop-letter.place i.0 c.does.ensures.desk letters is in
          let read = c.holds.ensures.0 c.if-not-holds.false in
          let letter : get_or letters c.loop-letter.place 0 ≡ c.from.result = same_number _ _ (sym n ∙ read) in
          let at : k ≡ c.loop-letter.place = here ∙ sym i.1 in
          ap (λ (p : ℕ). get_or letters p 0) at ∙ (letter ∙ (c.from.ensures ∙ ap (λ (p : ℕ). get_or c.args.word.now p 0) (sym here))))
          (λ (other : k ≢ c.loop-letter.letter-index). i.2 letters is same k (omega arith))
          (cases_eq k c.loop-letter.letter-index),
    )

pub returns-clause-answer : goal.returns-clause-answer
returns-clause-answer g c letters is same =
    let i = c.loop-letter.invariant in (
      (λ e. agree_all letters c.args.word.now same (λ k less. let past = c.loop-letter-test.false in i.2 letters is same k (omega (arith, past, less)))),
      (λ eq. refl),
    )
