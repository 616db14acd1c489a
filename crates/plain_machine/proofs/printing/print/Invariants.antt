use Rattle.std.proofs.Common.{◌≡◌, ◌++◌, drop}
use Rattle.std.specs.String.{string_bytes}
use Rattle.plain_heap.specs.Print.{lines_seen, seen_in}
use Rattle.plain_machine.proofs.printing.print.Given as goal

abbrev pub invariant-loop-m : goal.invariant-loop-m
invariant-loop-m l = string_bytes l.out ++ lines_seen l.m (seen_in (drop l.m l.mutator-items)) ≡ lines_seen 0 (seen_in l.mutator-items)
