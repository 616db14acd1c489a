-- it is of the same heap, and has still what it is to leave
use Rattle.std.proofs.Common.{◌≡◌}
use Rattle.ael_runtime.specs.Reading.{held}
use Rattle.stack_language.proofs.interpreter.Interpreter.leave_at.Given as goal

abbrev pub invariant-loop : goal.invariant-loop
invariant-loop g l = (l.self.local.table ≡ l.fn.self.local.table) × (held l.self.local 2 ≡ held l.fn.self.local 2)
