use Rattle.std.proofs.Common.{◌≡◌, replicate}
use Rattle.plain_heap.specs.Order.{fresh}
use Rattle.plain_machine.proofs.state.fresh_mutators.Given as goal

abbrev pub invariant-loop-mutator : goal.invariant-loop-mutator
invariant-loop-mutator l = l.mutators.items ≡ replicate l._mutator fresh
