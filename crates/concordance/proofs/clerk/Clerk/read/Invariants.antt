use Rattle.std.proofs.Common.{length}
use Rattle.concordance.proofs.Desks.ReadText.{ReadsText}
use Rattle.concordance.proofs.clerk.Clerk.read.Given as goal

abbrev pub invariant-loop-rest : goal.invariant-loop-rest
invariant-loop-rest g l = ReadsText l.fn.self l.part.line l.part.text.now l.number l.rest l.self

abbrev pub decreases-loop-rest : goal.decreases-loop-rest
decreases-loop-rest g l = length l.rest
