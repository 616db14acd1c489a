use Rattle.std.proofs.Common.{◌≡◌, take}
use Rattle.program_text.specs.Read.{lines_view}
use Rattle.mutator_asm.specs.Text.{schedule_of}
use Rattle.program_text.proofs.text.schedule.Given as goal

abbrev pub invariant-loop-line : goal.invariant-loop-line
invariant-loop-line l = l.items.items ≡ schedule_of (lines_view (take l.line-index l.lines))
