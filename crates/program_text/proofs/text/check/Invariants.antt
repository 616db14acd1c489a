use Rattle.std.proofs.Common.{◌≡◌, take}
use Rattle.program_text.specs.Labels.{before_of}
use Rattle.program_text.specs.Read.{lines_view}
use Rattle.mutator_asm.specs.Text.{IsCleanUpTo}
use Rattle.program_text.proofs.text.check.Given as goal

abbrev pub invariant-loop-i : goal.invariant-loop-i
invariant-loop-i l = record {
  before : l.before ≡ before_of (take l.i (lines_view l.lines));
  clean : IsCleanUpTo l.i (lines_view l.lines);
}
