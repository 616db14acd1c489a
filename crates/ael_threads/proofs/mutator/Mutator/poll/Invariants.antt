-- nothing is heard of it
use Rattle.std.proofs.Common.{◌≡◌}
use Rattle.ael_threads.specs.Calls.{StaysSilent}
use Rattle.ael_threads.proofs.mutator.Mutator.poll.Given as goal

abbrev pub invariant-loop : goal.invariant-loop
invariant-loop g l = (l.self.table ≡ l.fn.self.table) × StaysSilent l.fn.self l.self
