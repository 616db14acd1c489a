use Rattle.std.proofs.Common.{◌≡◌, ◌<◌, ◌≤◌, sym, ◌∙◌, subst, ⊎_elim, arith}
use Rattle.std.proofs.lemmas.Bool.{cases_lt}
use Rattle.plain_state.specs.declared.value.Value.TheVariants.{Number}
use Rattle.heap_state.specs.Meaning.Represents.{RegisterShows}
use Rattle.heap_audit.specs.Told.{dump_told}
use Rattle.heap_audit.proofs.WrongPlaces.PlainShows.{all_ended, as_many, found_shows, not_shown, shows_found}
use Rattle.heap_audit.proofs.places.showing.wrong_register_of.Goals as goal

pub returns-then-not-shows-clause-first : goal.returns-then-not-shows-clause-first
returns-then-not-shows-clause-first c =
    let d = dump_told c.args.heap.now in
    let values = c.registers-value-items.result.now in (
      λ shows. not_shown d _ _ c.shows.result c.shows.ensures c.if-not-shows.true
          (shows_found d c.args.plain.now c.args.m c.ended.result c.ended.ensures (sym c.is_some.ensures ∙ c.if-is_some.false) values c.registers-value-items.ensures c.loop-j.j (Number 0) c.loop-j-test.true
          (shows (omega (
            arith,
            c.loop-j-test.true,
            as_many d c.args.plain.now c.args.m c.ended.result c.ended.ensures (sym c.is_some.ensures ∙ c.if-is_some.false) values c.registers-value-items.ensures c.requires.form.eight,
          )))),
      λ a l few. c.loop-j.invariant a l,
    )

pub loop-j-preserved : goal.loop-j-preserved
loop-j-preserved c = λ k l.
    let d = dump_told c.args.heap.now in
    let values = c.registers-value-items.result.now in
    ⊎_elim
    (λ (before : k < c.loop-j.j). c.loop-j.invariant k before)
    (λ (from : c.loop-j.j ≤ k).
    let same : c.loop-j.j ≡ k = omega (arith, from, l) in
    subst (RegisterShows d c.args.plain.now c.args.m) same
    (found_shows d c.args.plain.now c.args.m c.ended.result c.ended.ensures (sym c.is_some.ensures ∙ c.if-is_some.false) values c.registers-value-items.ensures c.loop-j.j (Number 0) c.loop-j-test.true
    (c.shows.ensures.0 c.if-not-shows.false)))
    (cases_lt k c.loop-j.j)

pub returns-clause-first : goal.returns-clause-first
returns-clause-first c = λ a few.
    let eight =
    as_many (dump_told c.args.heap.now) c.args.plain.now c.args.m c.ended.result c.ended.ensures (sym c.is_some.ensures ∙ c.if-is_some.false) c.registers-value-items.result.now c.registers-value-items.ensures c.requires.form.eight in
    c.loop-j.invariant a (omega (arith, few, eight, c.loop-j-test.false))

pub returns-then-is_some-clause-first : goal.returns-then-is_some-clause-first
returns-then-is_some-clause-first c = λ a few. all_ended (dump_told c.args.heap.now) c.args.plain.now c.args.m c.ended.result c.ended.ensures (sym c.is_some.ensures ∙ c.if-is_some.true) a
