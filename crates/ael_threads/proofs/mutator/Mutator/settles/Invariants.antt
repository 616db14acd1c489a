-- it goes on
use Rattle.std.proofs.Common.{◌≡◌}
use Rattle.ael_threads.specs.Calls.{GoesOn}
use Rattle.ael_threads.specs.Seats.{Seated}
use Rattle.ael_threads.proofs.mutator.Mutator.settles.Given as goal

abbrev pub invariant-loop : goal.invariant-loop
invariant-loop g l = (l.self.table ≡ l.fn.self.table) × ((a : Seated) → GoesOn a l.fn.self → GoesOn a l.self)
