use Rattle.heap_laws.proofs.Targets.Published.{publishing_carries_targets}
use Rattle.heap_laws.proofs.laws.targets.publishing_carries_targets.Goals as goal

pub returns : goal.returns
returns c = publishing_carries_targets
