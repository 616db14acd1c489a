use Rattle.std.proofs.Common.{subst}
use Rattle.gc_worker.specs.declared.task.Task.TheVariants.{Stops}
use Rattle.gc_worker.specs.declared.calls.did.Did.{Did}
use Rattle.ael_threads.specs.Calls.{Called}
use Rattle.ael_threads.proofs.ProgramRuns.Executions.{stops}
use Rattle.ael_threads.proofs.WholeCalls.FromActs.{under_way}
use Rattle.ael_threads.proofs.mutator.Mutator.stop.Goals as goal

pub returns-clause-called : goal.returns-clause-called
returns-clause-called g c =
    let called = c.comes_to.ensures.called c.args.self.now (Stops c.args.end) (under_way c.args.self.now c.begin_end.new.self (Stops c.args.end) c.begin_end.ensures.begun c.begin_end.ensures.same.1 c.begin_end.ensures.looks_first) in
    subst (λ (did : Did). Called c.args.self.now (Stops c.args.end) did c.comes_to.new.self) (stops c.args.self.now c.comes_to.new.self c.args.end c.comes_to.result called) called
