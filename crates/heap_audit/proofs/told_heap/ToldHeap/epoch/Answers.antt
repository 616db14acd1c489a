use Rattle.heap_audit.proofs.ShownRecords.ToldWords.{epoch_is}
use Rattle.heap_audit.proofs.told_heap.ToldHeap.epoch.Goals as goal

pub returns : goal.returns
returns c = epoch_is _ _ _ c.gate_place.ensures.place
