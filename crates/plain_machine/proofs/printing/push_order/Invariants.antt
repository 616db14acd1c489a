use Rattle.std.proofs.Common.{◌≡◌, ◌++◌, drop, codes}
use Rattle.std.specs.List.{flat_map}
use Rattle.std.specs.String.{string_bytes}
use Rattle.plain_heap.specs.Print.{mark_text}
use Rattle.plain_machine.proofs.printing.push_order.Given as goal

abbrev pub invariant-loop-mark : goal.invariant-loop-mark
invariant-loop-mark l =
    string_bytes l.out ++ flat_map (λ mark. codes " " ++ mark_text mark) (drop l.mark-index l.order)
    ≡ string_bytes l.initial.out ++ flat_map (λ mark. codes " " ++ mark_text mark) l.order
