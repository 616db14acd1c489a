-- who is done has no task
use Rattle.std.proofs.Common.{◌≡◌, None, true}
use Rattle.thread_tests.proofs.turns.make_both.Given as goal

abbrev pub invariant-loop : goal.invariant-loop
invariant-loop g l =
    ((l.one.table ≡ l.fn.one.table) × (l.other.table ≡ l.fn.other.table))
    × ((l.is_one_done ≡ true → l.one.worker.task ≡ None) × (l.is_other_done ≡ true → l.other.worker.task ≡ None))
