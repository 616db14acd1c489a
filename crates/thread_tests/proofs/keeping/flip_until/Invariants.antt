-- between two calls
use Rattle.std.proofs.Common.{◌≡◌, None}
use Rattle.thread_tests.proofs.keeping.flip_until.Given as goal

abbrev pub invariant-loop : goal.invariant-loop
invariant-loop g l = (l.mutator.table ≡ l.fn.mutator.table) × (l.mutator.worker.task ≡ None)
