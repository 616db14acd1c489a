use Rattle.heap_laws.proofs.Saving.SavingWorkers.{saves_open}
use Rattle.heap_laws.proofs.laws.saving.rows.saves_open.Goals as goal

pub returns : goal.returns
returns c = saves_open
