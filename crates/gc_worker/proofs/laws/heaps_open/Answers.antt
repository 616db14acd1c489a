use Rattle.gc_worker.proofs.Between.OpenedHeap.{heaps_open}
use Rattle.gc_worker.proofs.laws.heaps_open.Goals as goal

pub returns : goal.returns
returns c = heaps_open
