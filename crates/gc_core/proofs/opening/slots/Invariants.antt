-- the workers so far
use Rattle.std.proofs.Common.{◌≡◌, true}
use Rattle.gc_worker.specs.Laws.Between.{fresh_workers}
use Rattle.gc_core.proofs.opening.slots.Given as goal

abbrev pub invariant-loop-k : goal.invariant-loop-k
invariant-loop-k l = l.slots.items ≡ fresh_workers true l.spaces l.mutators 0 l.k
