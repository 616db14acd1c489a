-- it is of the same heap
use Rattle.std.proofs.Common.{◌≡◌}
use Rattle.concordance.proofs.running.scans.Given as goal

abbrev pub invariant-loop : goal.invariant-loop
invariant-loop g l = l.scanner.seated.table ≡ l.job.table
