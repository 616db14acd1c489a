use Rattle.std.proofs.Common.{◌≡◌}
use Rattle.std.specs.List.{flat_map, range_with_len}
use Rattle.plain_state.specs.State.{made_by}
use Rattle.plain_machine.specs.Search.{lost_among}
use Rattle.plain_machine.proofs.heap.PlainHeap.lost_cells.Given as goal

-- those of the first mutators
abbrev pub invariant-loop-m : goal.invariant-loop-m
invariant-loop-m l = l.cells.items ≡ flat_map (λ m. lost_among l.marks m (made_by l.self m)) (range_with_len 0 l.m)
