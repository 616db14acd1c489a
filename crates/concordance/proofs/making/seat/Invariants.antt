-- the clerks of the mutators that were taken so far
use Rattle.std.proofs.Common.{vec_capacity, vec_len}
use Rattle.concordance.specs.Working.{shared_heap}
use Rattle.concordance.proofs.Working.NewSeats.{SeatsSoFar}
use Rattle.concordance.proofs.making.seat.Given as goal

abbrev pub invariant-loop-mutator : goal.invariant-loop-mutator
invariant-loop-mutator l =
    SeatsSoFar (shared_heap l.heap.table.shared.table_id l.heap.table.shared.key) l.heap.table.shared.key.mutators (vec_capacity l.clerks) l.mutators.items l.clerks.items

abbrev pub decreases-loop-mutator : goal.decreases-loop-mutator
decreases-loop-mutator l = vec_len l.mutators
