-- it makes no calls
use Rattle.std.proofs.Common.{◌≡◌, ℕ}
use Rattle.ael_threads.specs.Runs.Running.{RunsAsScanner}
use Rattle.ael_threads.proofs.scanner.Scanner.runs.Given as goal

abbrev pub invariant-loop : goal.invariant-loop
invariant-loop g l = (l.self.seated.table ≡ l.job.table) × ((k : ℕ) → RunsAsScanner l.job k l.fn.self.seated → RunsAsScanner l.job k l.self.seated)
