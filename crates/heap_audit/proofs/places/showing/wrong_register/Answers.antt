use Rattle.std.proofs.Common.{◌≡◌, ◌<◌, ◌≤◌, subst, ⊎_elim, arith}
use Rattle.std.proofs.lemmas.Bool.{cases_lt}
use Rattle.heap_state.specs.Meaning.Represents.{RegisterShows}
use Rattle.heap_audit.specs.Told.{dump_told}
use Rattle.heap_audit.proofs.places.showing.wrong_register.Goals as goal

pub returns-in-Some : goal.returns-in-Some
returns-in-Some c =
    let few = c.in-Some.ensures.few in (
      omega (arith, c.loop-m-test.true, c.requires.few),
      few,
      λ shows. c.in-Some.ensures.first.0 (λ l. shows),
      λ n j there short before.
          ⊎_elim
          (λ (lower : n < c.loop-m.m). c.loop-m.invariant n j lower short)
          (λ (from : c.loop-m.m ≤ n).
          let same : c.loop-m.m ≡ n = omega (arith, from, before, short, few) in
          subst (λ z. RegisterShows (dump_told c.args.heap.now) c.args.plain.now z j) same (c.in-Some.ensures.first.1 j (omega (arith, same, before)) short))
          (cases_lt n c.loop-m.m),
    )

pub loop-m-preserved : goal.loop-m-preserved
loop-m-preserved c = λ n j l short.
    ⊎_elim
    (λ (lower : n < c.loop-m.m). c.loop-m.invariant n j lower short)
    (λ (from : c.loop-m.m ≤ n).
    let same : c.loop-m.m ≡ n = omega (arith, from, l) in
    subst (λ z. RegisterShows (dump_told c.args.heap.now) c.args.plain.now z j) same (c.in_default.ensures.first j short))
    (cases_lt n c.loop-m.m)
