use Rattle.std.proofs.lemmas.Result.{IfOk-weaker}
use Rattle.ael_jobs.proofs.Causes.{lists, simulates}
use Rattle.ael_jobs.proofs.answering.make.Goals as goal

pub returns-in-Asm : goal.returns-in-Asm
returns-in-Asm c = IfOk-weaker c.asm.result _ _ (λ answer made. lists _ _ _ _ _ c.in-Asm.is made) c.asm.ensures

pub returns-in-Sim : goal.returns-in-Sim
returns-in-Sim c = IfOk-weaker c.sim.result _ _ (λ answer made. simulates _ _ _ _ _ _ c.in-Sim.is made) c.sim.ensures
