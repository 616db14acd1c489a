use Rattle.gc_core.proofs.Events.Law.{missing_workers_are_idle}
use Rattle.gc_core.proofs.laws.missing_workers_are_idle.Goals as goal

pub returns : goal.returns
returns c = missing_workers_are_idle
