use Rattle.std.proofs.Common.{◌*◌, ◌≡◌, ◌-◌, ◌<◌}
use Rattle.space_map.specs.Spaces.{past_heaps}
use Rattle.heap_state.specs.Memory.Table.{table_of}
use Rattle.crossing_map.specs.Walking.{next_in, nothing_reserved, passes_closed}
use Rattle.crossing_map.proofs.walk.next_new.Given as goal

abbrev pub invariant-loop-next : goal.invariant-loop-next
invariant-loop-next l =
    (next_in (l.end - l.fn.at) (passes_closed (table_of l.spaces.pages l.words) l.epoch) nothing_reserved (table_of l.spaces.pages l.words).heap l.end l.fn.at
    ≡ next_in (l.end - l.next) (passes_closed (table_of l.spaces.pages l.words) l.epoch) nothing_reserved (table_of l.spaces.pages l.words).heap l.end l.next)
    × (l.next < 2 * past_heaps)

abbrev pub decreases-loop-next : goal.decreases-loop-next
decreases-loop-next l = l.end - l.next
