use Rattle.std.proofs.Common.{subst}
use Rattle.gc_worker.specs.declared.calls.did.Did.{Did}
use Rattle.ael_threads.specs.Calls.{Called}
use Rattle.ael_threads.proofs.mutator.Mutator.comes_so.Goals as goal

pub returns-in-Done-clause-called : goal.returns-in-Done-clause-called
returns-in-Done-clause-called g c a task u = subst (λ (did : Did). Called a task did c.comes_to.new.self) c.in-Done.is (c.comes_to.ensures.called a task u)

pub returns-in-Trap-clause-called : goal.returns-in-Trap-clause-called
returns-in-Trap-clause-called g c a task u = (c.in-Trap.field-0, subst (λ (did : Did). Called a task did c.comes_to.new.self) c.in-Trap.is (c.comes_to.ensures.called a task u))
