-- nothing is heard of it
use Rattle.concordance.proofs.Working.Silence.{KeepsSilent}
use Rattle.concordance.proofs.clerk.Clerk.stands_by.Given as goal

abbrev pub invariant-loop : goal.invariant-loop
invariant-loop g l = KeepsSilent l.fn.self l.self
