use Rattle.std.proofs.Common.{◌≡◌, ◌+◌, drop}
use Rattle.dump_text.specs.Pieces.{digit_count}
use Rattle.dump_text.proofs.number.digit_count.Given as goal

abbrev pub invariant-loop-i : goal.invariant-loop-i
invariant-loop-i l = l.i + digit_count (drop l.i l.bytes) ≡ digit_count l.bytes
