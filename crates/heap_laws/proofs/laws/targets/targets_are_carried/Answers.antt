use Rattle.heap_laws.proofs.Targets.Carried.{targets_are_carried}
use Rattle.heap_laws.proofs.laws.targets.targets_are_carried.Goals as goal

pub returns : goal.returns
returns c = targets_are_carried
