-- between two calls
use Rattle.std.proofs.Common.{◌≡◌, None}
use Rattle.thread_tests.proofs.calling.make_all.Given as goal

abbrev pub invariant-loop-instr : goal.invariant-loop-instr
invariant-loop-instr g l = (l.mutator.table ≡ l.fn.mutator.table) × (l.mutator.worker.task ≡ None)
