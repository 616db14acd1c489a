use Rattle.std.proofs.Common.{◌≡◌, fold, take}
use Rattle.plain_heap.specs.Emptied.{emptied_cell}
use Rattle.plain_machine.proofs.heap.PlainHeap.empty_all.Given as goal

abbrev pub invariant-loop-cell : goal.invariant-loop-cell
invariant-loop-cell l = l.self ≡ fold emptied_cell l.initial.self (take l.cell-index l.cells)
