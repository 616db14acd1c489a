-- between two calls
use Rattle.std.proofs.Common.{◌≡◌, None}
use Rattle.thread_tests.proofs.keeping.make_list.Given as goal

abbrev pub invariant-loop-k : goal.invariant-loop-k
invariant-loop-k g l = (l.mutator.table ≡ l.fn.mutator.table) × (l.mutator.worker.task ≡ None)
