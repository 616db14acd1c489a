-- nothing is heard of it, and after no act so far it rests
use Rattle.std.proofs.Common.{◌≡◌, List, length}
use Rattle.ael_threads.specs.ActsInRow.{Series, is_rest}
use Rattle.ael_threads.specs.Calls.{StaysSilent}
use Rattle.ael_threads.specs.Seats.{Acts, Seated}
use Rattle.ael_threads.proofs.mutator.Mutator.comes_to_rest.Given as goal

abbrev pub invariant-loop : goal.invariant-loop
invariant-loop l = record {
  table : l.self.table ≡ l.fn.self.table;
  quiet : (a : Seated) → StaysSilent a l.fn.self → StaysSilent a l.self;
  before : List Seated;
  series : Series Acts is_rest l.fn.self before l.self;
  count : length before ≡ l.counter;
}
