use Rattle.heap_laws.proofs.Saving.LearntSaves.{rounds_follow}
use Rattle.heap_laws.proofs.laws.saving.rounds.rounds_follow.Goals as goal

pub returns : goal.returns
returns c = rounds_follow
