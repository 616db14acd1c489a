use Rattle.plain_machine.proofs.Found.ListedCells.{mutators_more}
use Rattle.plain_machine.proofs.heap.PlainHeap.lost_cells.Goals as goal

pub loop-m-preserved : goal.loop-m-preserved
loop-m-preserved c = mutators_more c.args.marks.now c.args.self.now c.loop-m.m _ c.loop-m.cells.items _ (rw c.records-list-items.ensures at c.loop-m-test.true) (rw c.records-list-items.ensures at c.list-item.is) c.loop-m.invariant c.in_ok-push_lost.ensures
