use Rattle.gc_worker.proofs.Between.Readying.{readying_stands}
use Rattle.gc_worker.proofs.laws.readying_stands.Goals as goal

pub returns : goal.returns
returns c = readying_stands
