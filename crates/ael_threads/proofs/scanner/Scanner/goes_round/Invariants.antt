-- no act so far has ended the round
use Rattle.std.proofs.Common.{◌≡◌, ◌||◌, List, length}
use Rattle.ael_threads.specs.ActsInRow.{ScannerActs, Series, ends_round, has_written}
use Rattle.ael_threads.specs.Readers.{SeatedScanner}
use Rattle.ael_threads.proofs.scanner.Scanner.goes_round.Given as goal

abbrev pub invariant-loop : goal.invariant-loop
invariant-loop l = record {
  table : l.self.seated.table ≡ l.fn.self.seated.table;
  before : List SeatedScanner;
  series : Series ScannerActs ends_round l.fn.self before l.self;
  count : length before ≡ l.counter;
  written : l.has_written ≡ (has_written before || l.fn.has_written);
}
