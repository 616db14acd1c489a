use Rattle.std.proofs.Common.{sym, ◌∙◌}
use Rattle.plain_machine.proofs.Found.ListedCells.{kept_more, lost_more}
use Rattle.plain_machine.proofs.heap.record_list.RecordList.push_lost.Goals.{then-is_lost+in_ok-push, else-is_lost}
use Rattle.plain_machine.proofs.heap.record_list.RecordList.push_lost.Goals as goal

pub loop-place-preserved : goal.loop-place-preserved
loop-place-preserved c = elim c.if-is_lost.branch [
  | then-is_lost+in_ok-push w ↦ rw (w.cells-is, w.in_ok-push.ensures.items)
      (lost_more c.args.marks.now c.args.m c.args.self.now _ c.loop-place.place _ (rw c.as_slice-record-items.ensures at c.loop-place-test.true) (rw c.as_slice-record-items.ensures at c.record-item.is) _ (sym c.is_lost.ensures ∙ w.if-is_lost.true) c.loop-place.invariant)
  | else-is_lost w ↦ rw w.cells-is
      (kept_more c.args.marks.now c.args.m c.args.self.now _ c.loop-place.place _ (rw c.as_slice-record-items.ensures at c.loop-place-test.true) (rw c.as_slice-record-items.ensures at c.record-item.is) _ (sym c.is_lost.ensures ∙ w.if-is_lost.false) c.loop-place.invariant)
]
