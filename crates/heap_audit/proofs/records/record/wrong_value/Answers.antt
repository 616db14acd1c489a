use Rattle.std.proofs.Common.{◌≡◌, ◌+◌, ◌<◌, ◌≤◌, ℕ, true, false, sym, ap, ◌∙◌, subst, ⊎_elim, arith}
use Rattle.std.proofs.lemmas.Bool.{cases_lt}
use Rattle.std.proofs.lemmas.Option.{slice_get_within}
use Rattle.plain_state.specs.Layout.{values_at, word_of_value}
use Rattle.plain_state.specs.declared.kind.Kind.{Kind}
use Rattle.heap_audit.specs.Records.{ValueShows}
use Rattle.heap_audit.specs.Told.{dump_told}
use Rattle.heap_audit.proofs.records.record.wrong_value.Goals as goal

-- the word that is looked at is the one of the value
word_here : (k j : Kind) (heap : ℕ → ℕ) (at from x word : ℕ) → j ≡ k → from ≡ values_at j → word ≡ heap (at + from + x) → word ≡ heap (at + word_of_value k x)
word_here k j heap at from x word same first read = let e = ap values_at same in read ∙ ap heap (omega (arith, first, e))

pub returns-then-not-value_shows-clause-first : goal.returns-then-not-value_shows-clause-first
returns-then-not-value_shows-clause-first c =
    let d = dump_told c.args.heap.now in
    let r = c.args.wanted.now in
    let at : c.word.result ≡ d.table.heap (c.args.at + word_of_value r.kind c.loop-x.x) =
    word_here r.kind c.kind.result d.table.heap c.args.at c.values_at.result c.loop-x.x c.word.result c.kind.ensures c.values_at.ensures c.word.ensures in (
      λ shows. let z : true ≡ false = sym (c.value_shows.ensures.1 (subst (ValueShows d r c.loop-x.x) (sym at) shows)) ∙ c.if-not-value_shows.true in cc,
      c.loop-x.invariant,
    )

pub loop-x-preserved : goal.loop-x-preserved
loop-x-preserved c = λ k l.
    let d = dump_told c.args.heap.now in
    let r = c.args.wanted.now in
    let at : c.word.result ≡ d.table.heap (c.args.at + word_of_value r.kind c.loop-x.x) =
    word_here r.kind c.kind.result d.table.heap c.args.at c.values_at.result c.loop-x.x c.word.result c.kind.ensures c.values_at.ensures c.word.ensures in
    ⊎_elim
    (λ (before : k < c.loop-x.x). c.loop-x.invariant k before)
    (λ (from : c.loop-x.x ≤ k).
    let same : c.loop-x.x ≡ k = omega arith in
    subst (λ z. ValueShows d r z (d.table.heap (c.args.at + word_of_value r.kind z))) same
    (subst (ValueShows d r c.loop-x.x) at (c.value_shows.ensures.0 c.if-not-value_shows.false)))
    (cases_lt k c.loop-x.x)

pub returns-clause-first : goal.returns-clause-first
returns-clause-first c = λ a.
    let r = c.args.wanted.now in
    ⊎_elim
    (λ (before : a < c.loop-x.x). c.loop-x.invariant a before)
    (λ (from : c.loop-x.x ≤ a). record {
      field = λ v is f. absurd (let within = slice_get_within r.values a v is in omega (arith, within, c.len-x-end.ensures, c.loop-x-test.false));
      number = λ v is f. absurd (let within = slice_get_within r.values a v is in omega (arith, within, c.len-x-end.ensures, c.loop-x-test.false));
    })
    (cases_lt a c.loop-x.x)
