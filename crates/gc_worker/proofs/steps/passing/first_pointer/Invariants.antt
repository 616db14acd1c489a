use Rattle.std.proofs.Common.{◌≡◌, ◌-◌}
use Rattle.gc_worker.specs.Steps.Turned.{first_pointer}
use Rattle.gc_worker.proofs.steps.passing.first_pointer.Given as goal

abbrev pub invariant-loop-register : goal.invariant-loop-register
invariant-loop-register l = first_pointer l.registers (8 - l.register) l.register ≡ first_pointer l.registers (8 - l.fn.from) l.fn.from
