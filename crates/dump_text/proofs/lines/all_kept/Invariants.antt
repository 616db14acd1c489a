use Rattle.std.proofs.Common.{◌≡◌, ◌-◌, ◌+◌, map}
use Rattle.dump_text.specs.Pieces.{kept_read_at, kept_view}
use Rattle.dump_text.specs.Reading.{many}
use Rattle.dump_text.proofs.Loop.{with_front}
use Rattle.dump_text.proofs.lines.all_kept.Given as goal

abbrev pub invariant-loop-i : goal.invariant-loop-i
invariant-loop-i l = with_front (map kept_view l.found.items) (many kept_read_at (l.count - l.i) (l.line + l.i) l.rest) ≡ many kept_read_at l.count l.line l.bytes
