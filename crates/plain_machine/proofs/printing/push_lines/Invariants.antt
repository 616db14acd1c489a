use Rattle.std.proofs.Common.{◌≡◌, ◌++◌, drop, decimal}
use Rattle.std.specs.List.{flat_map}
use Rattle.std.specs.String.{string_bytes}
use Rattle.plain_heap.specs.Print.{printed_line}
use Rattle.plain_machine.proofs.printing.push_lines.Given as goal

abbrev pub invariant-loop-number : goal.invariant-loop-number
invariant-loop-number l =
    string_bytes l.out ++ flat_map (λ n. printed_line l.m (decimal n)) (drop l.number-index l.numbers)
    ≡ string_bytes l.fn.out ++ flat_map (λ n. printed_line l.m (decimal n)) l.numbers
