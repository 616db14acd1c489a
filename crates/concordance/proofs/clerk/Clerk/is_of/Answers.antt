use Rattle.std.proofs.Common.{ℕ, List, length, ap, sym, ◌∙◌}
use Rattle.plain_state.specs.declared.value.Value.TheVariants.{Number}
use Rattle.concordance.proofs.Desks.ComparedLetters.{same_number}
use Rattle.concordance.proofs.Desks.ComparedWord.{can_count, counted, letters_counted}
use Rattle.concordance.proofs.clerk.Clerk.is_of.Goals as goal

pub does-requires-2-clause-can : goal.does-requires-2-clause-can
does-requires-2-clause-can g c = let e = c.requires.entry in can_count c.args.self.now c.does.new.self e.note e.before e.is c.does.ensures.desk

pub has_letters-requires-clause-letters : goal.has_letters-requires-clause-letters
has_letters-requires-clause-letters g c =
    let e = c.requires.entry in
    let n = counted c.args.self.now c.does.new.self e.note e.before e.is c.does.ensures.desk c.does-2.new.self c.does-2.ensures.desk in
    record {
      letters = e.note.word;
      is = letters_counted c.args.self.now c.does.new.self e.note e.before e.is c.does.ensures.desk c.does-2.new.self c.does-2.ensures.desk;
      count_is = same_number _ _ (sym n.taken ∙ c.holds.ensures.0 c.if-holds.true);
    }

pub returns-then-holds-clause-answer : goal.returns-then-holds-clause-answer
returns-then-holds-clause-answer g c e before is =
    let n = counted c.args.self.now c.does.new.self e before is c.does.ensures.desk c.does-2.new.self c.does-2.ensures.desk in
    c.has_letters.ensures.answer e.word (letters_counted c.args.self.now c.does.new.self e before is c.does.ensures.desk c.does-2.new.self c.does-2.ensures.desk) (same_number _ _ (sym n.taken ∙ c.holds.ensures.0 c.if-holds.true))

pub returns-else-holds-clause-answer : goal.returns-else-holds-clause-answer
returns-else-holds-clause-answer g c e before is =
    let n = counted c.args.self.now c.does.new.self e before is c.does.ensures.desk c.does-2.new.self c.does-2.ensures.desk in
    let no = c.if-holds.false in (
      (λ yes. absurd (cc)),
      λ eq. c.holds.ensures.1 (n.taken ∙ ap (λ (w : List ℕ). Number (length w)) eq),
    )
