use Rattle.gc_core.proofs.EventLaws.{runs_follow}
use Rattle.gc_core.proofs.laws.runs_follow.Goals as goal

pub returns : goal.returns
returns c = runs_follow
