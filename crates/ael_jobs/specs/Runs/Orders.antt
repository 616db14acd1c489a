-- The order of a run as it is noted, and as it is printed.
use Rattle.std.specs.Prelude.{◌≡◌, List, if◌then◌else◌}
use Rattle.std.specs.List.{AllByRecursion}
use Rattle.mutator_asm.specs.declared.instr.Instr.{Instr}
use Rattle.heap_audit.specs.Texts.Order.{MarkFits}
use Rattle.plain_heap.specs.declared.mark.Mark.{Mark}
use Rattle.plain_heap.specs.Tracing.{has_weak, untraced}

-- the marks are those of the order, whose numbers are those that their parts hold
pub record AreNoted (marks order : List Mark) : Type 0 where
  pub same : marks ≡ order
  pub fit : AllByRecursion MarkFits order

-- in a program that makes no cells the marks `Traced` are left out, which change nothing there
abbrev pub shown_order : List (List Instr) → List Mark → List Mark
shown_order code order = if has_weak code then order else untraced order
