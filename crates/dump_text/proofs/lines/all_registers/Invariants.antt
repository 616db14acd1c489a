use Rattle.std.proofs.Common.{◌≡◌, ◌-◌, ◌+◌}
use Rattle.dump_text.specs.Pieces.{registers_at}
use Rattle.dump_text.specs.Reading.{many}
use Rattle.dump_text.proofs.Loop.{with_front}
use Rattle.dump_text.proofs.lines.all_registers.Given as goal

abbrev pub invariant-loop-i : goal.invariant-loop-i
invariant-loop-i l = with_front l.found.items (many registers_at (l.count - l.i) (l.line + l.i) l.rest) ≡ many registers_at l.count l.line l.bytes
