-- the clerks that were taken in
use Rattle.std.proofs.Common.{vec_len}
use Rattle.ael_threads.specs.Seats.{Seated}
use Rattle.concordance.specs.Working.{SharedHeap}
use Rattle.concordance.proofs.Joined.TakenIn.{TakesIn}
use Rattle.concordance.proofs.making.joined.Given as goal

abbrev pub invariant-loop-other : goal.invariant-loop-other
invariant-loop-other l = (w : SharedHeap) × (first : Seated) × TakesIn w first l.fn.clerks.items l.clerks.items l.first

abbrev pub decreases-loop-other : goal.decreases-loop-other
decreases-loop-other l = vec_len l.clerks
