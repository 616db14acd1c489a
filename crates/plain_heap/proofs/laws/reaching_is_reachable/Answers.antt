use Rattle.plain_heap.proofs.Reaching.Closure.{reaches_is_reachable}
use Rattle.plain_heap.proofs.laws.reaching_is_reachable.Goals as goal

pub returns : goal.returns
returns c = reaches_is_reachable
