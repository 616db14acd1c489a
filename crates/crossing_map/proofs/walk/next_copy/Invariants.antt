use Rattle.std.proofs.Common.{◌*◌, ◌≡◌, ◌-◌, ◌<◌}
use Rattle.space_map.specs.Spaces.{past_heaps}
use Rattle.heap_state.specs.Kept.{reserved_in}
use Rattle.heap_state.specs.Memory.Table.{table_of}
use Rattle.crossing_map.specs.Crossing.{pairs_kept}
use Rattle.crossing_map.specs.Walking.{next_in, passes_none}
use Rattle.crossing_map.proofs.walk.next_copy.Given as goal

abbrev pub invariant-loop-next : goal.invariant-loop-next
invariant-loop-next l =
    (next_in (l.front - l.fn.at) passes_none (reserved_in (pairs_kept l.kept)) (table_of l.spaces.pages l.words).heap l.front l.fn.at
    ≡ next_in (l.front - l.next) passes_none (reserved_in (pairs_kept l.kept)) (table_of l.spaces.pages l.words).heap l.front l.next)
    × (l.next < 2 * past_heaps)

abbrev pub decreases-loop-next : goal.decreases-loop-next
decreases-loop-next l = l.front - l.next
