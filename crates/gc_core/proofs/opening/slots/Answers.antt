use Rattle.std.proofs.Common.{◌≡◌, ◌+◌, ◌∙◌, true, sym, arith}
use Rattle.gc_worker.specs.Laws.Between.{fresh_workers}
use Rattle.gc_core.proofs.Events.OpenedCore.{fresh_push}
use Rattle.gc_core.proofs.opening.slots.Goals as goal

pub loop-k-init : goal.loop-k-init
unfolding fresh_workers
loop-k-init c = c.new-slots.ensures.items

pub loop-k-preserved : goal.loop-k-preserved
loop-k-preserved c =
    let pushed = c.in_default.ensures.items in
    let there = c.in_ok-worker.ensures in
    let before = c.loop-k.invariant in
    let next = fresh_push true c.args.spaces c.args.mutators 0 c.loop-k.k in
    let same : 0 + c.loop-k.k ≡ c.loop-k.k = omega arith in
    pushed ∙ (rw (there, before) (rw same at (sym next)))
