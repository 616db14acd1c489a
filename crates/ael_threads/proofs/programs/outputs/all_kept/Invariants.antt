-- what the workers so far keep
use Rattle.std.proofs.Common.{◌≡◌, ◌≤◌, ◌+◌, ◌++◌, map, take, vec_capacity, vec_len}
use Rattle.ael_threads.specs.Runs.Outputs.{seat_kept}
use Rattle.ael_threads.specs.Readers.{SeatedScanner}
use Rattle.ael_threads.proofs.programs.outputs.all_kept.Given as goal

abbrev pub invariant-loop-mutator : goal.invariant-loop-mutator
invariant-loop-mutator l = record {
  made : l.all.items ≡ map seat_kept (take l.mutator-index l.seats.mutators.items);
  count : vec_len l.all ≡ l.mutator-index;
  room : vec_len l.seats.mutators + vec_len l.seats.scanners ≤ vec_capacity l.all;
}

abbrev pub invariant-loop-scanner : goal.invariant-loop-scanner
invariant-loop-scanner l = record {
  made : l.all.items ≡ map seat_kept l.seats.mutators.items ++ map (λ (s : SeatedScanner). seat_kept s.seated) (take l.scanner-index l.seats.scanners.items);
  count : vec_len l.all ≡ vec_len l.seats.mutators + l.scanner-index;
  room : vec_len l.seats.mutators + vec_len l.seats.scanners ≤ vec_capacity l.all;
}
