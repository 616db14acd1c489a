use Rattle.std.proofs.Common.{length}
use Rattle.concordance.proofs.Desks.ReadLine.{ReadsOn}
use Rattle.concordance.proofs.clerk.Clerk.read_line.Given as goal

abbrev pub invariant-loop-word : goal.invariant-loop-word
invariant-loop-word g l = ReadsOn l.fn.self l.number l.line l.rest l.self

abbrev pub decreases-loop-word : goal.decreases-loop-word
decreases-loop-word g l = length l.rest
