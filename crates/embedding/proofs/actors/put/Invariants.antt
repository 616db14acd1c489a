-- it is of the same heap, and has the list that it had
use Rattle.std.proofs.Common.{◌≡◌}
use Rattle.embedding.specs.Lists.{list_of}
use Rattle.embedding.proofs.actors.put.Given as goal

abbrev pub invariant-loop : goal.invariant-loop
invariant-loop g l = (l.local.table ≡ l.fn.local.table) × (list_of l.local ≡ list_of l.fn.local)
