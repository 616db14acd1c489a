-- it is of the same heap
use Rattle.std.proofs.Common.{◌≡◌}
use Rattle.stack_language.proofs.interpreter.Interpreter.take_from.Given as goal

abbrev pub invariant-loop : goal.invariant-loop
invariant-loop g l = l.self.local.table ≡ l.fn.self.local.table
