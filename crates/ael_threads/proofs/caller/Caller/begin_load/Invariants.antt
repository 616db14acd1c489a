use Rattle.gc_worker.specs.Steps.Direct.{ahead}
use Rattle.ael_threads.proofs.caller.Caller.begin_load.Given as goal

abbrev pub ghosts-loads : goal.ghosts-loads
ghosts-loads a = record { now = ahead a.worker.now a.instr a.stage }
