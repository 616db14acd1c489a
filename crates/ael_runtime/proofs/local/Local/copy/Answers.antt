use Rattle.ael_runtime.proofs.NumberCalls.{copied, sure_mov}
use Rattle.ael_runtime.proofs.local.Local.copy.Goals as goal

pub does-requires-clause-sure : goal.does-requires-clause-sure
does-requires-clause-sure g c = sure_mov c.args.self.now c.register.result c.register-2.result

pub returns-clause-value : goal.returns-clause-value
returns-clause-value g c =
    (copied c.args.self.now c.does.new.self c.args.to c.register.result c.register.ensures c.args.from c.register-2.result c.register-2.ensures c.does.ensures.executed).0

pub returns-clause-effects : goal.returns-clause-effects
returns-clause-effects g c =
    (copied c.args.self.now c.does.new.self c.args.to c.register.result c.register.ensures c.args.from c.register-2.result c.register-2.ensures c.does.ensures.executed).1
