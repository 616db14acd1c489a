use Rattle.std.proofs.Common.{◌≡◌, ◌-◌, ◌+◌}
use Rattle.dump_text.specs.Pieces.{cell_at}
use Rattle.dump_text.specs.Reading.{many}
use Rattle.dump_text.proofs.Loop.{with_front}
use Rattle.dump_text.proofs.lines.table.Given as goal

abbrev pub invariant-loop-i : goal.invariant-loop-i
invariant-loop-i l = with_front l.found.items (many (cell_at 10) (l.count - l.i) (l.line + l.i) l.rest) ≡ many (cell_at 10) l.count l.line l.bytes
