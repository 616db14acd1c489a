use Rattle.ael_threads.proofs.caller.Caller.act.Given as goal

abbrev pub ghosts-step : goal.ghosts-step
ghosts-step g a = record { now = a.worker.now }
