use Rattle.std.proofs.Common.{arith, rules}
use Rattle.std.proofs.lemmas.List.{length-replicate}
use Rattle.plain_heap.proofs.States.OpeningState.{opening-replicate}
use Rattle.plain_machine.proofs.state.PlainState.open.Goals as goal

pub returns : goal.returns
returns c = rw opening-replicate (search rules)

pub invariant_of-result : goal.invariant_of-result
invariant_of-result c = rw (c.in_ok-heap.ensures, c.in_ok-mutators.ensures) (simp length-replicate (omega arith))
