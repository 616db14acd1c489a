use Rattle.heap_laws.proofs.Targets.Walked.{targets_are_found}
use Rattle.heap_laws.proofs.laws.targets.targets_are_found.Goals as goal

pub returns : goal.returns
returns c = targets_are_found
