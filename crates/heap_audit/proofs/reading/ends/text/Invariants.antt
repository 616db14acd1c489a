use Rattle.std.proofs.Common.{◌≡◌, drop}
use Rattle.heap_audit.specs.Texts.Ends.{text_at}
use Rattle.heap_audit.proofs.reading.ends.text.Given as goal

abbrev pub invariant-loop-b : goal.invariant-loop-b
invariant-loop-b l = text_at (drop l.b-index l.wanted) l.rest ≡ text_at l.wanted l.bytes
