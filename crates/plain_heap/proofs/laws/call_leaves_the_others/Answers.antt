use Rattle.plain_heap.proofs.Calls.Rest.{call-others, call-count}
use Rattle.plain_heap.proofs.laws.call_leaves_the_others.Goals as goal

pub returns : goal.returns
returns c = record { others = call-others; count = call-count }
