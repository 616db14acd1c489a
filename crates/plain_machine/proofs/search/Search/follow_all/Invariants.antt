use Rattle.std.proofs.Common.{◌≡◌, fold, take}
use Rattle.plain_machine.specs.Search.{followed}
use Rattle.plain_machine.proofs.search.Search.follow_all.Given as goal

abbrev pub invariant-loop-value : goal.invariant-loop-value
invariant-loop-value l = l.self ≡ fold followed l.initial.self (take l.value-index l.values)
