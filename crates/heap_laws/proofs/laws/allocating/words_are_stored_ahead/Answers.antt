use Rattle.heap_laws.proofs.Allocation.Ahead.{stores_ahead}
use Rattle.heap_laws.proofs.laws.allocating.words_are_stored_ahead.Goals as goal

pub returns : goal.returns
returns c = stores_ahead
