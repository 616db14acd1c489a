use Rattle.heap_audit.proofs.ShownRecords.ToldWords.{front_is}
use Rattle.heap_audit.proofs.told_heap.ToldHeap.front.Goals as goal

pub returns : goal.returns
returns c = front_is _ _ _ _ c.requires c.area_place.ensures.place
