use Rattle.std.proofs.Common.{◌≡◌, ◌++◌, drop, map}
use Rattle.std.specs.String.{string_bytes}
use Rattle.plain_heap.specs.Print.{lines_seen}
use Rattle.heap_audit.specs.Texts.Lines.{seen_by}
use Rattle.heap_audit.proofs.reading.first_other.lines_text.Given as goal

abbrev pub invariant-loop-m : goal.invariant-loop-m
invariant-loop-m l = string_bytes l.out ++ lines_seen l.m (map seen_by (drop l.m l.mutators)) ≡ lines_seen 0 (map seen_by l.mutators)
