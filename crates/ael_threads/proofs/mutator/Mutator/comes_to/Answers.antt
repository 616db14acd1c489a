use Rattle.std.proofs.Common.{Option, ◌∙◌, subst}
use Rattle.gc_worker.specs.declared.calls.did.Did.{Did}
use Rattle.ael_threads.specs.Calls.{Tries}
use Rattle.ael_threads.proofs.mutator.Mutator.comes_to.Goals as goal

pub returns-in-Some-tries_at-clause-called : goal.returns-in-Some-tries_at-clause-called
returns-in-Some-tries_at-clause-called g c a task w = c.in-Some-tries_at.ensures.tries a task (c.loop.invariant.1 a task w)

pub loop-preserved : goal.loop-preserved
loop-preserved g c = (
  c.tries_at.ensures.table ∙ c.loop.invariant.0,
  λ a task w. subst (λ (o : Option Did). Tries a task o c.tries_at.new.self) c.in_default.is (c.tries_at.ensures.tries a task (c.loop.invariant.1 a task w)),
)
