-- it is about to leave
use Rattle.std.proofs.Common.{◌≡◌}
use Rattle.ael_threads.specs.Calls.{Departs}
use Rattle.ael_threads.proofs.mutator.Mutator.leave.Given as goal

abbrev pub invariant-loop : goal.invariant-loop
invariant-loop g l = (l.self.table ≡ l.fn.self.table) × Departs l.fn.self l.self
