use Rattle.ael_runtime.proofs.NumberCalls.{number_set, sure_li}
use Rattle.ael_runtime.proofs.local.Local.set_number.Goals as goal

pub does-requires-clause-sure : goal.does-requires-clause-sure
does-requires-clause-sure g c = sure_li c.args.self.now c.register.result c.args.number

pub returns-clause-value : goal.returns-clause-value
returns-clause-value g c = (number_set c.args.self.now c.does.new.self c.args.to c.register.result c.register.ensures c.args.number c.does.ensures.executed).0

pub returns-clause-effects : goal.returns-clause-effects
returns-clause-effects g c = (number_set c.args.self.now c.does.new.self c.args.to c.register.result c.register.ensures c.args.number c.does.ensures.executed).1
