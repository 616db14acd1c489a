use Rattle.std.proofs.Common.{[], ◌∷◌, ◌∙◌, arith, refl}
use Rattle.gc_worker.specs.declared.steps.stepped.Stepped.TheVariants as stepped
use Rattle.ael_threads.specs.ActsInRow.{is_idle}
use Rattle.ael_threads.specs.Seats.{Acts}
use Rattle.ael_threads.proofs.ActsInRow.{not_idle, series_more, some_made, some_stopped}
use Rattle.ael_threads.proofs.WholeCalls.FromActs.{quiet_more}
use Rattle.ael_threads.proofs.mutator.Mutator.departs.Goals as goal

pub loop-init : goal.loop-init
loop-init c = record { table = refl; quiet = λ a q. q; before = []; series = refl; count = refl }

pub loop-preserved : goal.loop-preserved
loop-preserved c =
    let i = c.loop.invariant in
    let count = i.count in record {
      table = c.act.ensures.table ∙ i.table;
      quiet = λ a q. quiet_more a c.loop.self c.act.new.self c.act.result (i.quiet a q) c.act.ensures.act;
      before = c.loop.self ∷ i.before;
      series = series_more Acts is_idle c.args.self.now i.before c.loop.self c.act.result c.act.new.self i.series c.act.ensures.act (not_idle c.act.result c.act.new.self (λ e. c.in_default.not-Idle e));
      count = omega (arith, count);
    }

pub returns-in-Idle-clause-acts : goal.returns-in-Idle-clause-acts
returns-in-Idle-clause-acts c =
    let i = c.loop.invariant in some_stopped Acts is_idle c.args.self.now i.before c.loop.self stepped.Idle c.act.new.self c.loop.counter i.series i.count c.loop-test.true c.in-Idle.ensures.act refl

pub returns-clause-acts : goal.returns-clause-acts
returns-clause-acts c =
    let i = c.loop.invariant in
    let test = c.loop-test.false in
    let end = c.loop.auto.counter-end in
    let count = i.count in some_made Acts is_idle c.args.self.now i.before c.loop.self i.series (omega (arith, test, end, count))
