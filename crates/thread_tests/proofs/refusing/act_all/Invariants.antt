-- it is of the same heap
use Rattle.std.proofs.Common.{◌≡◌}
use Rattle.thread_tests.proofs.refusing.act_all.Given as goal

abbrev pub invariant-loop : goal.invariant-loop
invariant-loop l = l.mutator.table ≡ l.fn.mutator.table
