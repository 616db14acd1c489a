use Rattle.gc_worker.proofs.History.Loads.{records_keep_their_shape}
use Rattle.gc_worker.proofs.history_laws.records_keep_their_shape.Goals as goal

pub returns : goal.returns
returns c = records_keep_their_shape
