-- it is of the same heap
use Rattle.std.proofs.Common.{◌≡◌}
use Rattle.thread_tests.proofs.calling.check_rounds.Given as goal

abbrev pub invariant-loop-round : goal.invariant-loop-round
invariant-loop-round g l = l.scanner.seated.table ≡ l.fn.scanner.seated.table
