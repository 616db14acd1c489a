use Rattle.std.proofs.Common.{◌≡◌, ◌∙◌, [], ◌∷◌, ap, arith, refl, sym}
use Rattle.gc_worker.specs.declared.stage.Stage.TheVariants.{Gone}
use Rattle.gc_worker.specs.declared.steps.stepped.Stepped.TheVariants as stepped
use Rattle.ael_threads.proofs.WholeCalls.AtRest.{gone_rests}
use Rattle.ael_threads.specs.Seats.{Seated}
use Rattle.ael_threads.proofs.WholeCalls.FromActs.{quiet_more}
use Rattle.ael_c.specs.declared.answer.Answer.TheVariants.{Done, Left}
use Rattle.ael_c.proofs.Cases.{round_done, scans_on, scans_to_end}
use Rattle.ael_c.proofs.acts.scans.Goals as goal

pub loop-init : goal.loop-init
loop-init c = record { table = refl; quiet = λ a q. q; before = []; series = refl; count = refl }

pub loop-preserved : goal.loop-preserved
loop-preserved c = let i = c.loop.invariant in record {
  table = c.act.ensures.table ∙ i.table;
  quiet = λ a q. quiet_more a c.loop.scanner.seated c.act.new.self.seated c.act.result (i.quiet a q) c.act.ensures.act;
  before = c.loop.scanner ∷ i.before;
  series = (c.act.result, record { act = c.act.ensures.act; steps = c.act.ensures.steps }, sym c.rests.ensures ∙ c.if-rests.false, i.series);
  count = omega (arith, i.count);
}

pub returns-in-Idle-clause-scans : goal.returns-in-Idle-clause-scans
returns-in-Idle-clause-scans c =
    let i = c.loop.invariant in
    let act = c.in-Idle.ensures.act in
    let gone : c.act.new.self.seated.worker.stage ≡ Gone = ap (λ (z : Seated). z.worker.stage) act.0 ∙ act.1 in
    scans_to_end c.args.scanner.now c.act.new.self (λ a q. quiet_more a c.loop.scanner.seated c.act.new.self.seated stepped.Idle (i.quiet a q) act)
    i.before c.loop.scanner stepped.Idle c.loop.counter i.series i.count c.loop-test.true (record { act = act; steps = c.in-Idle.ensures.steps })
    (gone_rests c.act.new.self.seated.worker gone) Left refl gone

pub returns-then-rests-clause-scans : goal.returns-then-rests-clause-scans
returns-then-rests-clause-scans c =
    let i = c.loop.invariant in
    let act = c.act.ensures.act in
    let rests = sym c.rests.ensures ∙ c.if-rests.true in
    scans_to_end c.args.scanner.now c.act.new.self (λ a q. quiet_more a c.loop.scanner.seated c.act.new.self.seated c.act.result (i.quiet a q) act)
    i.before c.loop.scanner c.act.result c.loop.counter i.series i.count c.loop-test.true (record { act = act; steps = c.act.ensures.steps })
    rests Done (round_done c.act.result c.in_default.not-Idle) rests

pub returns-clause-scans : goal.returns-clause-scans
returns-clause-scans c =
    let i = c.loop.invariant in
    scans_on c.args.scanner.now c.loop.scanner i.quiet i.before i.series (omega (arith, i.count, c.loop-test.false, c.loop.auto.counter-end))
