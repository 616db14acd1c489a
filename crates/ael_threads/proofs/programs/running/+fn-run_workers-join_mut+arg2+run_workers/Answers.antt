use Rattle.ael_threads.proofs.ProgramRuns.StartAndEnd.{scanners_of}
use Rattle.ael_threads.proofs.programs.running.+fn-run_workers-join_mut+arg2+run_workers.Goals as goal

pub run_scanners-requires-after_bounds : goal.run_scanners-requires-after_bounds
run_scanners-requires-after_bounds g t c κs within = scanners_of c.args.job.now c.args.job.now.plan.mutators c.args.scanners.now c.requires.scanners
