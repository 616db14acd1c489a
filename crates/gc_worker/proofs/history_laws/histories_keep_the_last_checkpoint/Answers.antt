use Rattle.gc_worker.proofs.History.CheckpointsOfHistories.{histories_count_checkpoints, histories_keep_the_last_checkpoint}
use Rattle.gc_worker.proofs.history_laws.histories_keep_the_last_checkpoint.Goals as goal

pub returns : goal.returns
returns c = record { last = histories_keep_the_last_checkpoint; counted = histories_count_checkpoints }
