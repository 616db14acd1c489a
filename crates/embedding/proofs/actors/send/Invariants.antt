-- it is of the same heap
use Rattle.std.proofs.Common.{◌≡◌}
use Rattle.embedding.proofs.actors.send.Given as goal

abbrev pub invariant-loop-list : goal.invariant-loop-list
invariant-loop-list g l = l.local.table ≡ l.fn.local.table

abbrev pub invariant-loop-k : goal.invariant-loop-k
invariant-loop-k g l = l.local.table ≡ l.fn.local.table
