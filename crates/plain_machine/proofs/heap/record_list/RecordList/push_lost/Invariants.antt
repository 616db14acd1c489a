use Rattle.std.proofs.Common.{◌≡◌, ◌++◌, false, map}
use Rattle.std.specs.List.{filter, range_with_len}
use Rattle.std.specs.Option.{option_map_or}
use Rattle.plain_state.specs.declared.value.Identity.{Identity}
use Rattle.plain_state.specs.State.{at_serial}
use Rattle.plain_machine.specs.Search.{is_lost}
use Rattle.plain_machine.proofs.heap.record_list.RecordList.push_lost.Given as goal

-- those of the first records
abbrev pub invariant-loop-place : goal.invariant-loop-place
invariant-loop-place l =
    l.cells.items ≡ l.initial.cells.items
    ++ filter (λ (i : Identity). option_map_or (is_lost l.marks) (at_serial l.self i.serial) false) (map (λ serial. record { mutator = l.m; serial = serial }) (range_with_len 1 l.place))
