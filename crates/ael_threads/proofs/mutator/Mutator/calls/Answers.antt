use Rattle.gc_worker.specs.declared.task.Task.TheVariants.{Calls}
use Rattle.ael_threads.proofs.WholeCalls.FromActs.{under_way}
use Rattle.ael_threads.proofs.mutator.Mutator.calls.Goals as goal

pub returns-clause-called : goal.returns-clause-called
returns-clause-called g c =
    c.comes_to.ensures.called c.args.self.now (Calls c.args.instr.now) (under_way c.args.self.now c.begin.new.self (Calls c.args.instr.now) c.begin.ensures.begun c.begin.ensures.same.1 c.begin.ensures.looks_first)
