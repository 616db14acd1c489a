use Rattle.heap_laws.proofs.Saving.Forgotten.{savers_forget, each_is_forgotten, runs_keep_saving}
use Rattle.heap_laws.proofs.laws.saving.rounds.savers_forget.Goals as goal

pub returns : goal.returns
returns c = record { less = savers_forget; each = each_is_forgotten; runs = runs_keep_saving }
