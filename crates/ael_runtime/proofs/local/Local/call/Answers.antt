use Rattle.std.proofs.Common.{◌∙◌, subst}
use Rattle.gc_worker.specs.declared.calls.did.Did.{Did}
use Rattle.gc_worker.specs.declared.task.Task.TheVariants.{Calls}
use Rattle.gc_worker.proofs.Workers.Printing.{may_execute_silent}
use Rattle.ael_threads.specs.Calls.{Called, CalledBy}
use Rattle.ael_threads.specs.Seats.{IsMine, Seated}
use Rattle.ael_threads.proofs.WholeCalls.Seen.{called, mine_more}
use Rattle.ael_runtime.specs.KnownLengths.{IsKnown}
use Rattle.ael_runtime.proofs.KnownLengths.{known_then}
use Rattle.ael_runtime.proofs.SeenCalls.{executed, may_trap}
use Rattle.ael_runtime.proofs.local.Local.call.Goals as goal

pub returns-clause-called : goal.returns-clause-called
returns-clause-called g c =
    called c.args.self.now c.exec-did.new.self c.args.instr c.exec-did.result c.requires.other
    (subst (λ (s : Seated). CalledBy s c.args.instr c.exec-did.result c.exec-did.new.self) c.self.view_is c.exec-did.ensures.called)

pub returns-clause-executed : goal.returns-clause-executed
returns-clause-executed g c done =
    let by = returns-clause-called g c in
    executed c.args.self.now c.exec-did.new.self c.args.instr c.requires.no_end (subst (λ (s : Seated). IsMine s.knows) c.self.view_is c.self.invariant.2)
    (subst (λ (did : Did). Called c.args.self.now (Calls c.args.instr) did c.exec-did.new.self) done by)

pub returns-clause-trapped : goal.returns-clause-trapped
returns-clause-trapped g c end trap =
    let by = returns-clause-called g c in
    may_trap c.args.self.now c.exec-did.new.self c.args.instr end c.requires.no_end (subst (λ (s : Seated). IsMine s.knows) c.self.view_is c.self.invariant.2)
    (subst (λ (did : Did). Called c.args.self.now (Calls c.args.instr) did c.exec-did.new.self) trap by)

pub invariant_of-self : goal.invariant_of-self
invariant_of-self g c =
    let by = returns-clause-called g c in (
      c.exec-did.ensures.table ∙ c.self.invariant.0,
      by.rests,
      mine_more c.args.self.now c.exec-did.new.self (Calls c.args.instr) c.exec-did.result by,
      known_then c.args.self.now c.exec-did.new.self c.args.instr c.exec-did.result c.self.inside.known c.known_after-self-inside.result c.known_after-self-inside.ensures
          (subst (IsKnown c.self.inside.known) c.self.view_is c.self.invariant.3) (returns-clause-executed g c),
    )

pub exec-did-requires-clause-may_execute : goal.exec-did-requires-clause-may_execute
exec-did-requires-clause-may_execute g c = may_execute_silent _ c.args.instr c.requires.silent
