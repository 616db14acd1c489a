use Rattle.heap_laws.proofs.Saving.SavingWorkers.{settled_may_flip, flips_are_spared}
use Rattle.heap_laws.proofs.laws.saving.rows.flips_are_spared.Goals as goal

pub returns : goal.returns
returns c = record { ready = settled_may_flip; spared = flips_are_spared }
