use Rattle.std.proofs.Common.{◌∙◌, ap}
use Rattle.plain_heap.specs.Action.{are_same}
use Rattle.ael_runtime.specs.Reading.{held, value_number, root_register}
use Rattle.ael_runtime.proofs.NumberCalls.{compared, one_told, sure_eq}
use Rattle.ael_runtime.specs.declared.root.TheConstants.{SCRATCH}
use Rattle.ael_runtime.proofs.local.Local.same.Goals as goal

pub does-requires-clause-sure : goal.does-requires-clause-sure
does-requires-clause-sure g c = sure_eq c.args.self.now SCRATCH c.register.result c.register-2.result

pub returns-clause-same : goal.returns-clause-same
returns-clause-same g c =
    let s = c.args.self.now in
    let told = compared s c.does.new.self c.args.one c.args.other c.register.result c.register-2.result c.register.ensures c.register-2.ensures c.does.ensures.executed in
    c.eq.ensures ∙ one_told (are_same (held s (root_register c.args.one)) (held s (root_register c.args.other))) c.number_in.result (c.number_in.ensures ∙ ap value_number told.0)

pub returns-clause-effects : goal.returns-clause-effects
returns-clause-effects g c = (compared c.args.self.now c.does.new.self c.args.one c.args.other c.register.result c.register-2.result c.register.ensures c.register-2.ensures c.does.ensures.executed).1
