use Rattle.std.proofs.Common.{length}
use Rattle.heap_audit.proofs.Texts.Orders.{SoFar}
use Rattle.heap_audit.proofs.reading.order.read_order.Given as goal

abbrev pub invariant-loop-text : goal.invariant-loop-text
invariant-loop-text l = SoFar l.initial.rest l.found.items l.rest

abbrev pub decreases-loop-text : goal.decreases-loop-text
decreases-loop-text l = length l.rest
