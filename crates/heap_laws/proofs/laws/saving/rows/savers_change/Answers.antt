use Rattle.heap_laws.proofs.Saving.SavingWorkers.{saver_changes, steps_are_spared}
use Rattle.heap_laws.proofs.laws.saving.rows.savers_change.Goals as goal

pub returns : goal.returns
returns c = record { alone = saver_changes; steps = steps_are_spared }
