use Rattle.std.proofs.Common.{[], ◌∷◌, ◌∙◌, arith, refl}
use Rattle.gc_worker.specs.declared.steps.stepped.Stepped.TheVariants as stepped
use Rattle.ael_threads.specs.ActsInRow.{is_answer}
use Rattle.ael_threads.specs.Seats.{Acts}
use Rattle.ael_threads.proofs.ActsInRow.{no_answer, series_more, some_made, some_stopped}
use Rattle.ael_threads.proofs.WholeCalls.FromActs.{ended, executed, way_more}
use Rattle.ael_threads.proofs.mutator.Mutator.tries_at.Goals as goal

pub loop-init : goal.loop-init
loop-init g c = record { table = refl; waits = λ a task w. w; before = []; series = refl; count = refl }

pub returns-in-Effect-clause-tries : goal.returns-in-Effect-clause-tries
returns-in-Effect-clause-tries g c a task w = executed a c.loop.self c.act_at.new.self task c.in-Effect.field-0 (c.loop.invariant.waits a task w) c.in-Effect.ensures.act

pub returns-in-Effect-clause-acts : goal.returns-in-Effect-clause-acts
returns-in-Effect-clause-acts g c =
    let i = c.loop.invariant in some_stopped Acts is_answer c.args.self.now i.before c.loop.self (stepped.Effect c.in-Effect.field-0) c.act_at.new.self c.loop.counter i.series i.count c.loop-test.true c.in-Effect.ensures.act refl

pub returns-in-Ended-clause-tries : goal.returns-in-Ended-clause-tries
returns-in-Ended-clause-tries g c a task w = ended a c.loop.self c.act_at.new.self task c.in-Ended.field-0 c.in-Ended.end (c.loop.invariant.waits a task w) c.in-Ended.ensures.act

pub returns-in-Ended-clause-acts : goal.returns-in-Ended-clause-acts
returns-in-Ended-clause-acts g c =
    let i = c.loop.invariant in some_stopped Acts is_answer c.args.self.now i.before c.loop.self (stepped.Ended c.in-Ended.field-0 c.in-Ended.end) c.act_at.new.self c.loop.counter i.series i.count c.loop-test.true c.in-Ended.ensures.act refl

pub loop-preserved : goal.loop-preserved
loop-preserved g c =
    let i = c.loop.invariant in
    let count = i.count in record {
      table = c.act_at.ensures.table ∙ i.table;
      waits = λ a task w. way_more a c.loop.self c.act_at.new.self task c.act_at.result (i.waits a task w) c.act_at.ensures.act (λ m e. c.in_default.not-Effect m e) (λ m end e. c.in_default.not-Ended m end e);
      before = c.loop.self ∷ i.before;
      series = series_more Acts is_answer c.args.self.now i.before c.loop.self c.act_at.result c.act_at.new.self i.series c.act_at.ensures.act
          (no_answer c.act_at.result c.act_at.new.self (λ m e. c.in_default.not-Effect m e) (λ m end e. c.in_default.not-Ended m end e));
      count = omega (arith, count);
    }

pub returns-clause-tries : goal.returns-clause-tries
returns-clause-tries g c = c.loop.invariant.waits

pub returns-clause-acts : goal.returns-clause-acts
returns-clause-acts g c =
    let i = c.loop.invariant in
    let test = c.loop-test.false in
    let end = c.loop.auto.counter-end in
    let count = i.count in some_made Acts is_answer c.args.self.now i.before c.loop.self i.series (omega (arith, test, end, count))
