use Rattle.ael_runtime.proofs.RecordCalls.{fetched, sure_ld}
use Rattle.ael_runtime.proofs.local.Local.fetch.Goals as goal

pub loads-requires-clause-sure : goal.loads-requires-clause-sure
loads-requires-clause-sure g c =
    sure_ld c.args.self.now c.reach.new.self c.args.of c.args.at c.in_ok-reach.ensures.effects c.requires.other c.in_ok-reach.ensures.within c.args.to

pub returns-clause-value : goal.returns-clause-value
returns-clause-value g c =
    (fetched c.args.self.now c.reach.new.self c.args.of c.args.at c.in_ok-reach.ensures.effects c.requires.other c.in_ok-reach.ensures.within c.args.to
    c.loads.new.self c.requires.to c.loads.ensures.executed).value

pub returns-clause-within : goal.returns-clause-within
returns-clause-within g c =
    (fetched c.args.self.now c.reach.new.self c.args.of c.args.at c.in_ok-reach.ensures.effects c.requires.other c.in_ok-reach.ensures.within c.args.to
    c.loads.new.self c.requires.to c.loads.ensures.executed).inside

pub returns-clause-effects : goal.returns-clause-effects
returns-clause-effects g c =
    (fetched c.args.self.now c.reach.new.self c.args.of c.args.at c.in_ok-reach.ensures.effects c.requires.other c.in_ok-reach.ensures.within c.args.to
    c.loads.new.self c.requires.to c.loads.ensures.executed).effects
