use Rattle.heap_laws.proofs.Flipping.Reset.{finds_still, reads_size, reads_used, stores_area_word, clears_weak}
use Rattle.heap_laws.proofs.laws.flipping.flips_are_made_ready.Goals as goal

pub returns : goal.returns
returns c = record { still = finds_still; size = reads_size; used = reads_used; area = stores_area_word; weak = clears_weak }
