use Rattle.std.proofs.Common.{inr}
use Rattle.ael_runtime.proofs.RecordCalls.{cant_hold, kept, store_begins}
use Rattle.ael_runtime.proofs.local.Local.keep.Goals as goal

pub call-requires-clause-may_begin : goal.call-requires-clause-may_begin
call-requires-clause-may_begin g c =
    store_begins c.args.self.now c.reach.new.self c.args.of c.args.at c.in_ok-reach.ensures.effects c.requires.others.0 c.in_ok-reach.ensures.within c.args.what c.requires.others.1
    c.reach.new.self.worker.account c.reach.new.self.worker.registers c.requires.of c.requires.what c.requires.at

pub returns-in-Done-clause-value : goal.returns-in-Done-clause-value
returns-in-Done-clause-value g c =
    (kept c.args.self.now c.reach.new.self c.args.of c.args.at c.in_ok-reach.ensures.effects c.requires.others.0 c.in_ok-reach.ensures.within c.args.what c.requires.others.1
    c.call.new.self (c.call.ensures.executed c.in-Done.is)).value

pub returns-in-Done-clause-within : goal.returns-in-Done-clause-within
returns-in-Done-clause-within g c =
    (kept c.args.self.now c.reach.new.self c.args.of c.args.at c.in_ok-reach.ensures.effects c.requires.others.0 c.in_ok-reach.ensures.within c.args.what c.requires.others.1
    c.call.new.self (c.call.ensures.executed c.in-Done.is)).inside

pub returns-in-Done-clause-effects : goal.returns-in-Done-clause-effects
returns-in-Done-clause-effects g c =
    (kept c.args.self.now c.reach.new.self c.args.of c.args.at c.in_ok-reach.ensures.effects c.requires.others.0 c.in_ok-reach.ensures.within c.args.what c.requires.others.1
    c.call.new.self (c.call.ensures.executed c.in-Done.is)).effects

pub returns-in-Trap-clause-fails : goal.returns-in-Trap-clause-fails
returns-in-Trap-clause-fails g c =
    inr (cant_hold c.args.self.now c.reach.new.self c.args.of c.args.at c.in_ok-reach.ensures.effects c.requires.others.0 c.in_ok-reach.ensures.within c.args.what c.requires.others.1
    c.call.new.self c.in-Trap.end (c.call.ensures.trapped c.in-Trap.end c.in-Trap.is))
