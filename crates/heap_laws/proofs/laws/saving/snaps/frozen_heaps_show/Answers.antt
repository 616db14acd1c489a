use Rattle.heap_laws.proofs.Saving.Pictures.{frozen_heaps_show}
use Rattle.heap_laws.proofs.laws.saving.snaps.frozen_heaps_show.Goals as goal

pub returns : goal.returns
returns c = frozen_heaps_show
