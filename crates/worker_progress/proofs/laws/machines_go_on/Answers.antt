use Rattle.worker_progress.proofs.WholeProgress.{machines_go_on}
use Rattle.worker_progress.proofs.laws.machines_go_on.Goals as goal

pub returns : goal.returns
returns c = machines_go_on
