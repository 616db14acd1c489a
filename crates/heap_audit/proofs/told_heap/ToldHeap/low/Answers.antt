use Rattle.heap_audit.proofs.ShownRecords.ToldWords.{low_is}
use Rattle.heap_audit.proofs.told_heap.ToldHeap.low.Goals as goal

pub returns : goal.returns
returns c = low_is _ _ _ _ c.requires c.area_place.ensures.place
