-- between two calls
use Rattle.std.proofs.Common.{◌≡◌, None}
use Rattle.runtime_tests.proofs.costs.sum_by_calls.Given as goal

abbrev pub invariant-loop-k : goal.invariant-loop-k
invariant-loop-k g l = (l.mutator.table ≡ l.fn.mutator.table) × (l.mutator.worker.task ≡ None)

abbrev pub invariant-loop : goal.invariant-loop
invariant-loop g l = (l.mutator.table ≡ l.fn.mutator.table) × (l.mutator.worker.task ≡ None)
