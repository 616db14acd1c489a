use Rattle.std.proofs.Common.{◌+◌, ◌≤◌, drop}
use Rattle.heap_audit.proofs.Texts.FirstDifference.{Alike}
use Rattle.heap_audit.proofs.reading.first_other.first_difference.Given as goal

abbrev pub invariant-loop-b : goal.invariant-loop-b
invariant-loop-b l = record {
  alike : Alike l.wanted l.told l.rest (drop l.b-index l.told) l.line;
  few : l.line ≤ l.b-index + 1;
}
