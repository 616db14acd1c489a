use Rattle.ael_threads.proofs.WholeCalls.AfterSnap.{ended_by, other_called, settled_by}
use Rattle.ael_threads.proofs.mutator.Mutator.exec.Goals as goal

pub returns-in-Done-clause-called : goal.returns-in-Done-clause-called
returns-in-Done-clause-called g c =
    settled_by c.args.self.now c.calls-did.new.self c.settles.new.self c.args.instr.now c.calls-did.result c.in-Snap.is c.in-Done.is c.calls-did.ensures.called (c.settles.ensures.goes_on c.calls-did.new.self) c.settles.ensures.settled

pub returns-in_default-did-clause-called : goal.returns-in_default-did-clause-called
returns-in_default-did-clause-called g c = ended_by c.args.self.now c.calls-did.new.self c.args.instr.now c.calls-did.result c.in-Snap.is c.in_default-did.not-Done c.calls-did.ensures.called

pub returns-in_default-clause-called : goal.returns-in_default-clause-called
returns-in_default-clause-called g c = other_called c.args.self.now c.calls-did.new.self c.args.instr.now c.calls-did.result c.in_default.not-Snap c.calls-did.ensures.called
