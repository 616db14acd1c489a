use Rattle.std.proofs.Common.{◌≡◌, drop}
use Rattle.heap_state.specs.Kept.{reserved_in}
use Rattle.crossing_map.specs.Crossing.{pairs_kept}
use Rattle.crossing_map.proofs.walk.reserved_size.Given as goal

abbrev pub invariant-loop-header : goal.invariant-loop-header
invariant-loop-header l = reserved_in (pairs_kept l.kept) l.at ≡ reserved_in (pairs_kept (drop l.header-index l.kept)) l.at
