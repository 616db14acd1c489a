use Rattle.std.proofs.Common.{◌≤◌, arith}
use Rattle.gc_core.specs.Core.{workers_of}
use Rattle.ael_jobs.proofs.runs.scheduled.step.Goals as goal

pub returns-else-worker-workers-clause-told : goal.returns-else-worker-workers-clause-told
returns-else-worker-workers-clause-told c =
    let past : workers_of c.args.core.now ≤ c.args.worker = omega arith in
    (c.missing_workers_are_idle.ensures c.args.core.now c.args.worker past).0

pub returns-else-worker-workers-clause-after : goal.returns-else-worker-workers-clause-after
returns-else-worker-workers-clause-after c =
    let past : workers_of c.args.core.now ≤ c.args.worker = omega arith in
    (c.missing_workers_are_idle.ensures c.args.core.now c.args.worker past).1
