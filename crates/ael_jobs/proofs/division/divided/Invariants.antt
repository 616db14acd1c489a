-- no line in front of the rest is `.output`
use Rattle.std.proofs.Common.{length}
use Rattle.ael_jobs.proofs.Inputs.InputLines.{HasPassed}
use Rattle.ael_jobs.proofs.division.divided.Given as goal

abbrev pub invariant-loop-line : goal.invariant-loop-line
invariant-loop-line l = HasPassed l.fn.input l.rest

abbrev pub decreases-loop-line : goal.decreases-loop-line
decreases-loop-line l = length l.rest
