use Rattle.std.proofs.Common.{◌≡◌, map, take}
use Rattle.crossing_map.specs.Crossing.{pairs_kept}
use Rattle.dump_text.specs.Pieces.{kept_view}
use Rattle.heap_audit.proofs.auditing.pairs.Given as goal

abbrev pub invariant-loop-one : goal.invariant-loop-one
invariant-loop-one l =
    pairs_kept l.pairs.items ≡ map kept_view (take l.one-index l.kept)
