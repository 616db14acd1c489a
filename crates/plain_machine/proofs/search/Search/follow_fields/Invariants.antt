use Rattle.std.proofs.Common.{◌≡◌, fold, take}
use Rattle.plain_machine.specs.Search.{followed}
use Rattle.plain_heap.proofs.Reaching.Closure.{fields_from}
use Rattle.plain_machine.proofs.search.Search.follow_fields.Given as goal

abbrev pub invariant-loop-x : goal.invariant-loop-x
invariant-loop-x l = l.self ≡ fold followed l.initial.self (fields_from l.content.kind 0 (take l.x l.content.values))
