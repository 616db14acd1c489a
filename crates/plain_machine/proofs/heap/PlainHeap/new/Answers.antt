use Rattle.std.proofs.lemmas.List.{replicate_more}
use Rattle.plain_machine.proofs.heap.PlainHeap.new.Goals as goal

pub loop-mutator-preserved : goal.loop-mutator-preserved
loop-mutator-preserved c = rw (c.in_ok-push.ensures.items, c.loop-mutator.invariant, c.new.ensures) (replicate_more _ _)
