use Rattle.std.proofs.Common.{◌≡◌, ◌∙◌, replicate, rules, sym}
use Rattle.space_map.specs.Table.{whole_length}
use Rattle.heap_laws.specs.Opening.{opening_entries}
use Rattle.gc_worker.proofs.Between.OpenedHeap.{opening_words_are, written_in}
use Rattle.gc_worker.proofs.opening.opening_words.Goals as goal

pub returns : goal.returns
returns c =
    let stored : c.store-7.new.self ≡ written_in c.args.spaces.pages (replicate (whole_length c.args.spaces) 0) (opening_entries c.args.spaces.pages c.args.pages) = search rules in
    stored ∙ sym (opening_words_are c.args.spaces c.args.pages)
