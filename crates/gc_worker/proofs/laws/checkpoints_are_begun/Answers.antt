use Rattle.gc_worker.proofs.Saving.Won.{clears_are_won, snaps_are_won}
use Rattle.gc_worker.proofs.laws.checkpoints_are_begun.Goals as goal

pub returns : goal.returns
returns c = record { begun = snaps_are_won; cleared = clears_are_won }
