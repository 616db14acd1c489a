use Rattle.gc_worker.proofs.StoriesKeep.{stories_keep, stories_open}
use Rattle.gc_worker.proofs.laws.stories_keep.Goals as goal

pub returns : goal.returns
returns c = record { keep = stories_keep; begin = stories_open }
