use Rattle.std.proofs.Common.{◌≡◌, [], replicate}
use Rattle.plain_machine.proofs.heap.PlainHeap.new.Given as goal

abbrev pub invariant-loop-mutator : goal.invariant-loop-mutator
invariant-loop-mutator l = l.records.items ≡ replicate l._mutator []
