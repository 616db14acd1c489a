use Rattle.plain_heap.proofs.Alone.Orders.{order-same, run_alone-ends}
use Rattle.plain_heap.proofs.laws.alone_mutators_are_independent.Goals as goal

pub returns : goal.returns
returns c = record { same = order-same; ends = run_alone-ends }
