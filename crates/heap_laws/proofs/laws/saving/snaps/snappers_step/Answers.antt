use Rattle.heap_laws.proofs.Saving.Snappers.{snappers_step}
use Rattle.heap_laws.proofs.laws.saving.snaps.snappers_step.Goals as goal

pub returns : goal.returns
returns c = snappers_step
