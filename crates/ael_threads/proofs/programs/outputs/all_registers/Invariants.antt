-- those of the mutators so far
use Rattle.std.proofs.Common.{◌≡◌, ◌≤◌, length, map, take, vec_capacity, vec_len}
use Rattle.ael_threads.specs.Runs.Outputs.{seat_registers}
use Rattle.ael_threads.proofs.programs.outputs.all_registers.Given as goal

abbrev pub invariant-loop-mutator : goal.invariant-loop-mutator
invariant-loop-mutator l = record {
  made : l.all.items ≡ map seat_registers (take l.mutator-index l.mutators);
  count : vec_len l.all ≡ l.mutator-index;
  room : length l.mutators ≤ vec_capacity l.all;
}
