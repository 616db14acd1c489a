-- what was begun is still waited for, and no act so far has answered a call
use Rattle.std.proofs.Common.{◌≡◌, List, length}
use Rattle.gc_worker.specs.declared.task.Task.{Task}
use Rattle.ael_threads.specs.ActsInRow.{Series, is_answer}
use Rattle.ael_threads.specs.Calls.{IsUnderWay}
use Rattle.ael_threads.specs.Seats.{Acts, Seated}
use Rattle.ael_threads.proofs.mutator.Mutator.tries_at.Given as goal

abbrev pub invariant-loop : goal.invariant-loop
invariant-loop g l = record {
  table : l.self.table ≡ l.fn.self.table;
  waits : (a : Seated) (task : Task) → IsUnderWay a task l.fn.self → IsUnderWay a task l.self;
  before : List Seated;
  series : Series Acts is_answer l.fn.self before l.self;
  count : length before ≡ l.counter;
}
