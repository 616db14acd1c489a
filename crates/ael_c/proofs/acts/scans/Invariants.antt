-- nothing is heard of it, and no act so far has ended the round
use Rattle.std.proofs.Common.{◌≡◌, List, length}
use Rattle.ael_threads.specs.ActsInRow.{ScannerActs, Series, ends_round}
use Rattle.ael_threads.specs.Calls.{StaysSilent}
use Rattle.ael_threads.specs.Readers.{SeatedScanner}
use Rattle.ael_threads.specs.Seats.{Seated}
use Rattle.ael_c.proofs.acts.scans.Given as goal

abbrev pub invariant-loop : goal.invariant-loop
invariant-loop l = record {
  table : l.scanner.seated.table ≡ l.fn.scanner.seated.table;
  quiet : (a : Seated) → StaysSilent a l.fn.scanner.seated → StaysSilent a l.scanner.seated;
  before : List SeatedScanner;
  series : Series ScannerActs ends_round l.fn.scanner before l.scanner;
  count : length before ≡ l.counter;
}
