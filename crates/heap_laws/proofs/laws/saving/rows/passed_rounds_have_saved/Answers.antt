use Rattle.heap_laws.proofs.Saving.PassedRounds.{passed_rounds_have_saved}
use Rattle.heap_laws.proofs.laws.saving.rows.passed_rounds_have_saved.Goals as goal

pub returns : goal.returns
returns c = passed_rounds_have_saved
