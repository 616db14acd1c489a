-- the callers that were taken in
use Rattle.std.proofs.Common.{◌≡◌, List, ◌++◌, vec_len}
use Rattle.ael_threads.specs.Seats.{Gathers, Seated}
use Rattle.ael_threads.proofs.shared.Shared.gather_mutators.Given as goal

abbrev pub invariant-loop-other : goal.invariant-loop-other
invariant-loop-other l = (done : List Seated) × (l.fn.mutators.items ≡ l.mutators.items ++ done) × Gathers l.self.table.shared.table_id done l.one

abbrev pub decreases-loop-other : goal.decreases-loop-other
decreases-loop-other l = vec_len l.mutators
