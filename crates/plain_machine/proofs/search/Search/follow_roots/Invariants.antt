use Rattle.std.proofs.Common.{◌≡◌, fold, take}
use Rattle.std.specs.List.{flat_map}
use Rattle.plain_heap.specs.Reaching.{held_by}
use Rattle.plain_machine.specs.Search.{followed}
use Rattle.plain_machine.proofs.search.Search.follow_roots.Given as goal

abbrev pub invariant-loop-mutator : goal.invariant-loop-mutator
invariant-loop-mutator l = l.self ≡ fold followed l.initial.self (flat_map held_by (take l.mutator-index l.mutators))
