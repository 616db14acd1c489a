use Rattle.heap_laws.proofs.Saving.Sparing.{stores_are_spared}
use Rattle.heap_laws.proofs.laws.saving.spares.stores_are_spared.Goals as goal

pub returns : goal.returns
returns c = stores_are_spared
