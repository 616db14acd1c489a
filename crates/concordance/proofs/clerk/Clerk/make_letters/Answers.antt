use Rattle.std.proofs.Common.{List, ◌++◌, [], ◌∷◌, ap, ◌∙◌, refl, arith}
use Rattle.plain_state.specs.declared.value.Value.{Value}
use Rattle.concordance.specs.Lone.{desk_of}
use Rattle.concordance.specs.Notes.Records.{raw}
use Rattle.concordance.proofs.Desks.MadeLetters.{begun, begun_changes, goes_on, goes_on_changes, takes_letter}
use Rattle.concordance.proofs.Desks.Seats.{seat_then}
use Rattle.concordance.proofs.FoundFull.{full_now, passed_on}
use Rattle.concordance.proofs.Lists.Letters.{all_written}
use Rattle.concordance.proofs.clerk.Clerk.make_letters.Goals as goal

pub loop-letter-init : goal.loop-letter-init
loop-letter-init g c = (
  c.in_ok-makes.ensures.same,
  c.in_ok-makes.ensures.lone,
  begun_changes c.args.self.now c.args.word.now c.makes.new.self c.in_ok-makes.ensures.desk,
  begun c.args.self.now c.args.word.now c.makes.new.self c.in_ok-makes.ensures.desk,
  refl,
)

pub does-requires-in-loop-letter-clause-can : goal.does-requires-in-loop-letter-clause-can
does-requires-in-loop-letter-clause-can g c =
    let i = c.loop-letter.invariant in
    takes_letter c.args.self.now c.args.word.now c.loop-letter.self c.does.new.self c.loop-letter.letter-index c.loop-letter.place c.from.result i.4 c.from.ensures i.3 i.2 c.does.ensures.desk c.loop-letter-test.true

pub loop-letter-preserved : goal.loop-letter-preserved
loop-letter-preserved g c =
    let i = c.loop-letter.invariant in (
      seat_then c.args.self.now c.loop-letter.self c.does-in-loop-letter.new.self i.0 (seat_then c.loop-letter.self c.does.new.self c.does-in-loop-letter.new.self c.does.ensures.same c.does-in-loop-letter.ensures.same),
      c.does-in-loop-letter.ensures.lone,
      goes_on_changes c.args.self.now c.args.word.now c.loop-letter.self c.does.new.self c.loop-letter.letter-index c.loop-letter.place c.from.result i.4 c.from.ensures i.3 i.2 c.does.ensures.desk c.does-in-loop-letter.new.self c.does-in-loop-letter.ensures.desk,
      goes_on c.args.self.now c.args.word.now c.loop-letter.self c.does.new.self c.loop-letter.letter-index c.loop-letter.place c.from.result i.4 c.from.ensures i.3 i.2 c.does.ensures.desk c.does-in-loop-letter.new.self c.does-in-loop-letter.ensures.desk,
      (let e = i.4 in omega (arith, e)),
    )

pub returns-clause-records : goal.returns-clause-records
returns-clause-records g c =
    let i = c.loop-letter.invariant in
    i.3.records ∙ ap (λ (vs : List Value). (desk_of c.args.self.now).records ++ raw vs ∷ []) (all_written c.args.word.now c.loop-letter.letter-index c.loop-letter-test.false)

pub returns-in_err-makes-clause-full : goal.returns-in_err-makes-clause-full
returns-in_err-makes-clause-full g c = let e = c.in_err-makes.ensures in let n = c.requires.short in passed_on _ _ _ c.from_residual.ensures.1 (full_now _ _ _ _ _ c.requires.lone e.shows e.full (omega (arith, n)))
