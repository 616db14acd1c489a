use Rattle.heap_laws.proofs.Saving.LearntSaves.{savers_learn, numbers_fit, numbers_stay}
use Rattle.heap_laws.proofs.laws.saving.rounds.savers_learn.Goals as goal

pub returns : goal.returns
returns c = record { loads = savers_learn; fit = numbers_fit; again = numbers_stay }
