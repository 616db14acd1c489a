use Rattle.std.proofs.Common.{◌∙◌}
use Rattle.ael_threads.proofs.ProgramRuns.Executions.{scanning_more}
use Rattle.ael_threads.proofs.scanner.Scanner.runs.Goals as goal

pub loop-preserved : goal.loop-preserved
loop-preserved g c = (
  c.act.ensures.table ∙ c.loop.invariant.0,
  λ k was. scanning_more c.args.job.now k c.loop.self.seated c.act.new.self.seated c.act.result (c.loop.invariant.1 k was) c.act.ensures.act c.act.ensures.table,
)
