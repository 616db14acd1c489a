use Rattle.std.proofs.Common.{◌≡◌, take}
use Rattle.plain_heap.specs.Order.{story}
use Rattle.plain_machine.specs.Search.{Keeps}
use Rattle.plain_heap.specs.Tracing.{has_weak}
use Rattle.plain_machine.proofs.order.plain_run.Given as goal

-- the run keeps the story of the marks so far
abbrev pub invariant-loop-mark : goal.invariant-loop-mark
invariant-loop-mark l =
    Keeps (story l.p.code l.turns (take l.mark-index l.order)) l.run.now l.run.lost.items × (l.run.weak ≡ has_weak l.p.code)
