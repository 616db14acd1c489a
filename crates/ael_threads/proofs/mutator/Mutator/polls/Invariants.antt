-- nothing is heard of it, and it has the end that it had
use Rattle.std.proofs.Common.{◌≡◌}
use Rattle.ael_threads.specs.Calls.{StaysSilent}
use Rattle.ael_threads.proofs.mutator.Mutator.polls.Given as goal

abbrev pub invariant-loop : goal.invariant-loop
invariant-loop g l = (l.self.table ≡ l.fn.self.table) × StaysSilent l.fn.self l.self × (l.self.worker.account.end ≡ l.fn.self.worker.account.end)
