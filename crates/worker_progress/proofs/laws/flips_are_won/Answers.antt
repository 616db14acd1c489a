use Rattle.worker_progress.proofs.Epochs.WonFlips.{flips_are_won}
use Rattle.worker_progress.proofs.laws.flips_are_won.Goals as goal

pub returns : goal.returns
returns c = flips_are_won
