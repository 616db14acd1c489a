use Rattle.std.proofs.Common.{◌∙◌}
use Rattle.ael_jobs.specs.Runs.Schedule.{scheduled_by}
use Rattle.ael_jobs.proofs.WholeRuns.Agreeing.{runs_agree}
use Rattle.ael_jobs.proofs.runs.scheduled.run_by_schedule.Goals as goal

pub returns-clause-core : goal.returns-clause-core
returns-clause-core c =
    let schedule = scheduled_by c.args.options.seed c.args.items.now c.workers.result in
    rw (← c.workers.ensures.exact, ← runs_agree _ schedule c.new-scheduler.ensures 0 c.args.options.steps c.args.core.now) c.in_ok-run_noting.ensures.core

pub returns-clause-order : goal.returns-clause-order
returns-clause-order c =
    let schedule = scheduled_by c.args.options.seed c.args.items.now c.workers.result in
    rw (← c.workers.ensures.exact, ← runs_agree _ schedule c.new-scheduler.ensures 0 c.args.options.steps c.args.core.now)
    (λ asked. c.in_ok-run_noting.ensures.order (c.in_ok-run_noting.ensures.kept ∙ asked))
