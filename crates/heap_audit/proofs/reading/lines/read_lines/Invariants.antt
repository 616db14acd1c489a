use Rattle.std.proofs.Common.{◌≡◌, ◌≤◌, ◌*◌, map}
use Rattle.heap_audit.proofs.Texts.AllLines.{AllSoFar}
use Rattle.heap_audit.specs.Texts.Lines.{line_count, seen_by}
use Rattle.heap_audit.proofs.reading.lines.read_lines.Given as goal

abbrev pub invariant-loop-m : goal.invariant-loop-m
invariant-loop-m l = record {
  read : AllSoFar l.mutators l.bytes (map seen_by l.all.items) l.m l.rest;
  counted : l.count ≡ line_count (map seen_by l.all.items);
  few : l.count ≤ 65537 * l.m;
}
