use Rattle.std.proofs.Common.{◌≡◌, ◌-◌, ◌++◌, ◌≤◌, map}
use Rattle.heap_audit.specs.Told.{dump_told}
use Rattle.heap_audit.specs.Walks.{break_on, walk_on, walked}
use Rattle.heap_audit.proofs.walks.stretch.walk_stretch.Given as goal

-- what is left of the walk is what follows what was found
abbrev pub invariant-loop-at : goal.invariant-loop-at
invariant-loop-at l =
    (map walked l.found.items ++ walk_on (dump_told l.heap) l.stretch l.at l.end ≡ map walked l.initial.found.items ++ walk_on (dump_told l.heap) l.stretch l.fn.from l.end)
    × (break_on (dump_told l.heap) l.stretch l.at l.end ≡ break_on (dump_told l.heap) l.stretch l.fn.from l.end)
    × (l.at ≤ l.end)

abbrev pub decreases-loop-at : goal.decreases-loop-at
decreases-loop-at l = l.end - l.at
