-- it was told to go on after each round so far
use Rattle.std.proofs.Common.{◌≡◌, List}
use Rattle.ael_threads.specs.ActsInRow.{RoundAsked, Series, is_stopped}
use Rattle.ael_threads.specs.Calls.{StaysSilent}
use Rattle.ael_threads.specs.Readers.{SeatedScanner}
use Rattle.ael_threads.specs.Seats.{Seated}
use Rattle.ael_threads.proofs.scanner.Scanner.scans.Given as goal

abbrev pub invariant-loop : goal.invariant-loop
invariant-loop g l = record {
  may_ask : goal.F-IsAlwaysCallable g l.stop;
  table : l.self.seated.table ≡ l.fn.self.seated.table;
  quiet : (a : Seated) → StaysSilent a l.fn.self.seated → StaysSilent a l.self.seated;
  before : List (SeatedScanner × _);
  series : Series (RoundAsked (λ f told h. goal.F-step g f told h)) is_stopped (l.fn.self, l.fn.stop) before (l.self, l.stop);
}
