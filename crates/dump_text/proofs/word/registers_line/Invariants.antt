use Rattle.std.proofs.Common.{◌≡◌, ◌-◌, length, take}
use Rattle.plain_state.specs.declared.sizes.TheConstants.{REGISTERS}
use Rattle.dump_text.specs.Pieces.{line_at}
use Rattle.dump_text.proofs.Row.{with_words}
use Rattle.dump_text.proofs.word.registers_line.Given as goal

abbrev pub invariant-loop-i : goal.invariant-loop-i
invariant-loop-i l = record {
  long : length l.registers ≡ REGISTERS;
  so_far : with_words (take l.i l.registers) (line_at (REGISTERS - l.i) l.rest) ≡ line_at REGISTERS l.bytes;
}
