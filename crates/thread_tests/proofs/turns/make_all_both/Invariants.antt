-- between two pairs
use Rattle.std.proofs.Common.{◌≡◌, None}
use Rattle.thread_tests.proofs.turns.make_all_both.Given as goal

abbrev pub invariant-loop-pair : goal.invariant-loop-pair
invariant-loop-pair g l =
    ((l.one.table ≡ l.fn.one.table) × (l.one.worker.task ≡ None))
    × ((l.other.table ≡ l.fn.other.table) × (l.other.worker.task ≡ None))
