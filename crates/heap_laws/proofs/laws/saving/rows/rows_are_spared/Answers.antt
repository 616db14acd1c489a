use Rattle.heap_laws.proofs.Saving.SparedRows.{rows_are_spared}
use Rattle.heap_laws.proofs.laws.saving.rows.rows_are_spared.Goals as goal

pub returns : goal.returns
returns c = rows_are_spared
