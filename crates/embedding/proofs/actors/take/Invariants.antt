-- it is of the same heap
use Rattle.std.proofs.Common.{◌≡◌}
use Rattle.embedding.proofs.actors.take.Given as goal

abbrev pub invariant-loop : goal.invariant-loop
invariant-loop g l = l.local.table ≡ l.fn.local.table
