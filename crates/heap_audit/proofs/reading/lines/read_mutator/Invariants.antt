use Rattle.std.proofs.Common.{length}
use Rattle.heap_audit.proofs.Texts.SeenLines.{SoFar}
use Rattle.heap_audit.proofs.reading.lines.read_mutator.Given as goal

abbrev pub invariant-loop-read : goal.invariant-loop-read
invariant-loop-read l = SoFar l.m l.initial.rest l.printed.items l.rest

abbrev pub decreases-loop-read : goal.decreases-loop-read
decreases-loop-read l = length l.rest
