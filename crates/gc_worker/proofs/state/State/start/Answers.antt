use Rattle.std.proofs.Common.{ap, ◌∙◌}
use Rattle.gc_worker.specs.declared.task.due.Due.{Due}
use Rattle.gc_worker.specs.declared.task.Task.TheVariants.{Calls}
use Rattle.gc_worker.specs.Workers.Held.{Held}
use Rattle.gc_worker.specs.Steps.Stepped.{stepped_by, task_due}
use Rattle.gc_worker.specs.Steps.Turned.{told_start}
use Rattle.gc_worker.specs.contracts.state.State.{the_view}
use Rattle.gc_worker.proofs.Words.Read.{call_told}
use Rattle.gc_worker.proofs.state.State.start.Goals as goal

pub returns-in-Call-clause-tells : goal.returns-in-Call-clause-tells
returns-in-Call-clause-tells c =
    let s = c.self.inside in
    let x = the_view s in
    c.execute.ensures.tells (Calls s.instr)
    ∙ ap (stepped_by x.number) (call_told x s.instr (ap (λ (due : Due). task_due due s.instr s.stop) c.in-Call.is))
    ∙ ap (λ (y : Held). stepped_by y.number (told_start y y.task)) c.self.view_is
