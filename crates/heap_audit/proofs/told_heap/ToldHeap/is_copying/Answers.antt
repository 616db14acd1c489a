use Rattle.std.proofs.Common.{◌∙◌, ◌+◌, ap}
use Rattle.heap_audit.proofs.ShownRecords.ToldWords.{differs, traced_is}
use Rattle.heap_audit.proofs.told_heap.ToldHeap.is_copying.Goals as goal

pub returns : goal.returns
returns c =
    let n = c.args.self.now.spaces.pages in
    let words = c.args.self.now.words.now in
    differs _ _ _ _ (traced_is n words c.traced_place.result c.traced_place.ensures.place) (ap (λ e. e + 1) (c.from.ensures ∙ c.epoch.ensures))
