use Rattle.heap_audit.proofs.ShownRecords.ToldWords.{size_is}
use Rattle.heap_audit.proofs.told_heap.ToldHeap.size.Goals as goal

pub returns : goal.returns
returns c = size_is _ _ _ _ c.requires c.size_place.ensures.place
