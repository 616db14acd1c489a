use Rattle.gc_worker.proofs.MachineEnds.Whole.{ended_machines_make_way}
use Rattle.gc_worker.proofs.laws.ended_machines_make_way.Goals as goal

pub returns : goal.returns
returns c = ended_machines_make_way
