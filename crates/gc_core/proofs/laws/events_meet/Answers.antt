use Rattle.gc_core.proofs.EventLaws.{events_meet}
use Rattle.gc_core.proofs.laws.events_meet.Goals as goal

pub returns : goal.returns
returns c = events_meet
