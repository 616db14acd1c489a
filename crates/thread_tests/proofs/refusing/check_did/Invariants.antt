-- it is of the same heap
use Rattle.std.proofs.Common.{◌≡◌}
use Rattle.thread_tests.proofs.refusing.check_did.Given as goal

abbrev pub invariant-loop-instr : goal.invariant-loop-instr
invariant-loop-instr g l = l.mutator.table ≡ l.fn.mutator.table
