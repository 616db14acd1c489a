use Rattle.gc_worker.proofs.Words.Read.{header_made}
use Rattle.gc_worker.proofs.steps.allocating.header_after.Goals as goal

pub returns : goal.returns
returns c = header_made _
