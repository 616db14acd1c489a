use Rattle.ael_jobs.proofs.Printed.Seeing.{HaltsBelow}
use Rattle.ael_jobs.proofs.runs.mutators.all_halted.Given as goal

abbrev pub invariant-loop-m : goal.invariant-loop-m
invariant-loop-m g l = HaltsBelow l.m (g.H.Report.told l.heap).seen
