-- it is at its next instruction
use Rattle.ael_threads.specs.Runs.Running.{Executing}
use Rattle.ael_threads.proofs.mutator.Mutator.executes.Given as goal

abbrev pub invariant-loop-executed : goal.invariant-loop-executed
invariant-loop-executed g l = Executing l.job l.m l.executed l.self
