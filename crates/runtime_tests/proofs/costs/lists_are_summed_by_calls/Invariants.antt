-- between two lists
use Rattle.std.proofs.Common.{◌≡◌, None}
use Rattle.runtime_tests.proofs.costs.lists_are_summed_by_calls.Given as goal

abbrev pub invariant-loop : goal.invariant-loop
invariant-loop g l = (l.mutator.table ≡ l.heap.table.shared.table_id) × (l.mutator.worker.task ≡ None)
