use Rattle.std.proofs.Common.{◌+◌, length}
use Rattle.plain_machine.specs.Search.{unset}
use Rattle.plain_machine.proofs.Found.Closed.{IsSearch}
use Rattle.plain_machine.proofs.search.mark_reachable.Given as goal

abbrev pub invariant-loop-identity : goal.invariant-loop-identity
invariant-loop-identity l = IsSearch (record { heap = l.heap; mutators = l.mutators }) l.search

-- the marks that aren't set, and the records whose fields are still to be followed
abbrev pub decreases-loop-identity : goal.decreases-loop-identity
decreases-loop-identity l = unset l.search.marks + length l.search.work
