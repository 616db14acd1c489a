use Rattle.std.proofs.Common.{subst}
use Rattle.gc_worker.proofs.Workers.Printing.{may_execute_silent}
use Rattle.ael_threads.specs.Calls.{CalledBy}
use Rattle.ael_threads.specs.Seats.{Seated}
use Rattle.ael_threads.proofs.WholeCalls.Seen.{called}
use Rattle.concordance.proofs.clerk.Clerk.call.Goals as goal

pub returns-clause-called : goal.returns-clause-called
returns-clause-called g c =
    let by = subst (λ (s : Seated). CalledBy s c.args.instr c.exec.result c.exec.new.self) c.self.view_is c.exec.ensures.called in
    called c.args.self.now c.exec.new.self c.args.instr c.exec.result c.requires.other by

pub exec-requires-clause-may_execute : goal.exec-requires-clause-may_execute
exec-requires-clause-may_execute g c = may_execute_silent _ c.args.instr c.requires.silent
