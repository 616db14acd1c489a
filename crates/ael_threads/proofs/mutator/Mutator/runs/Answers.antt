use Rattle.ael_threads.proofs.ProgramRuns.Executions.{left}
use Rattle.ael_threads.proofs.mutator.Mutator.runs.Goals as goal

pub returns : goal.returns
returns g c =
    let h = c.executes.ensures in
    left c.args.job.now c.args.m c.executes.new.self c.leave.new.self h (c.leave.ensures.ended h.end h.ended) c.leave.ensures.table c.leave.ensures.left
