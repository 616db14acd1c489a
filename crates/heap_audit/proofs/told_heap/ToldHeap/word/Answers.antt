use Rattle.std.proofs.Common.{arith}
use Rattle.heap_audit.proofs.ShownRecords.ToldWords.{none_is, word_is}
use Rattle.heap_audit.proofs.told_heap.ToldHeap.word.Goals as goal

pub returns-then-address-board_page : goal.returns-then-address-board_page
returns-then-address-board_page c = none_is _ _ _ (omega arith)

pub returns : goal.returns
returns c = word_is _ _ _ _ (omega arith) c.word_place.ensures.place
