use Rattle.std.proofs.Common.{◌≡◌, ◌+◌, sym, ap, ◌∙◌, arith}
use Rattle.gc_core.proofs.Runs.EventByEvent.{comes_on, came_over, came_out}
use Rattle.ael_jobs.specs.Runs.ToCome.{to_come}
use Rattle.ael_jobs.proofs.WholeRuns.Noting.{comes_on_noted, came_over_noted, came_out_noted}
use Rattle.ael_jobs.proofs.runs.scheduled.run_noting.Goals as goal

pub loop-preserved : goal.loop-preserved
loop-preserved c =
    let schedule = to_come c.args.scheduler.now in
    let running = sym c.loop.invariant.over ∙ c.if-over.false in
    let at = c.loop-test.true in
    let now : c.loop.counter + 0 ≡ c.loop.counter = omega arith in
    let worker : c.next.result ≡ schedule c.loop.counter = c.next.ensures.names ∙ c.loop.invariant.names 0 ∙ ap schedule now in
    record {
      names = λ at.
          let later : c.loop.counter + (at + 1) ≡ c.loop.counter + 1 + at = omega arith in
          c.next.ensures.later at ∙ c.loop.invariant.names (at + 1) ∙ ap schedule later;
      over = c.in_ok-over.ensures.over;
      kept = c.in_ok-over.ensures.kept ∙ c.loop.invariant.kept;
      core = rw (c.step-stepped.ensures.after, worker) (comes_on _ _ _ _ _ at running c.loop.invariant.core);
      order = rw (c.step-stepped.ensures.after, worker)
          (comes_on_noted _ _ _ _ _ _ _ at running (rw (← worker, ← c.step-stepped.ensures.told) c.in_ok-over.ensures.noted) c.loop.invariant.order);
    }

pub returns-after-loop-clause-core : goal.returns-after-loop-clause-core
returns-after-loop-clause-core c = came_out _ _ _ _ _ (omega arith) c.loop.invariant.core

pub returns-then-over-clause-core : goal.returns-then-over-clause-core
returns-then-over-clause-core c = came_over _ _ _ _ _ (sym c.loop.invariant.over ∙ c.if-over.true) c.loop.invariant.core

pub returns-after-loop-clause-order : goal.returns-after-loop-clause-order
returns-after-loop-clause-order c = came_out_noted _ _ _ _ _ _ (omega arith) c.loop.invariant.order

pub returns-then-over-clause-order : goal.returns-then-over-clause-order
returns-then-over-clause-order c = came_over_noted _ _ _ _ _ _ (sym c.loop.invariant.over ∙ c.if-over.true) c.loop.invariant.order
