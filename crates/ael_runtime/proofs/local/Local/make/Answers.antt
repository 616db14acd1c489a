use Rattle.std.proofs.Common.{◌+◌, [], ◌∷◌, inr, ap, arith, subst, sym}
use Rattle.ael_threads.proofs.ProgramRuns.Executions.{is_done}
use Rattle.ael_runtime.specs.Calling.{HadEffects, done}
use Rattle.ael_runtime.specs.Making as making
use Rattle.ael_runtime.specs.Reading.{held, len_of, root_register, seen_heap}
use Rattle.ael_runtime.proofs.NewRecords.{full_root, made_len, made_root}
use Rattle.ael_runtime.proofs.local.Local.make.Goals as goal

pub returns-in-Trap-clause-fails : goal.returns-in-Trap-clause-fails
returns-in-Trap-clause-fails g c =
    inr (full_root c.args.self.now c.call.new.self c.args.to c.register.result c.args.fields c.args.numbers c.register.ensures c.making.result c.making.ensures
    c.is_too_long.result c.is_too_long.ensures c.if-is_too_long.false c.in-Trap.end (c.call.ensures.trapped c.in-Trap.end c.in-Trap.is))

pub remember-requires-clause-len : goal.remember-requires-clause-len
remember-requires-clause-len g c =
    let b = c.call.new.self in
    let made = made_root c.args.self.now b c.args.to c.register.result c.args.fields c.args.numbers c.register.ensures c.making.result c.making.ensures
    c.is_too_long.result c.is_too_long.ensures c.if-is_too_long.false (c.call.ensures.executed (is_done c.call.result c.in_default-call.not-Trap)) in
    let len = made_len c.args.self.now (making.kind_for c.args.fields c.args.numbers) (c.args.fields + c.args.numbers) (root_register c.args.to) b made.0 in
    let to = ap (λ r. len_of (seen_heap b) (held b r)) c.register-2.ensures in
    let fields = c.from.ensures in
    let numbers = c.from-2.ensures in
    omega (arith, len, to, fields, numbers)

pub returns-clause-made : goal.returns-clause-made
returns-clause-made g c =
    subst (making.HasMade c.args.self.now (making.kind_for c.args.fields c.args.numbers) (c.args.fields + c.args.numbers) (root_register c.args.to)) (sym c.remember.ensures)
    (made_root c.args.self.now c.call.new.self c.args.to c.register.result c.args.fields c.args.numbers c.register.ensures c.making.result c.making.ensures
    c.is_too_long.result c.is_too_long.ensures c.if-is_too_long.false (c.call.ensures.executed (is_done c.call.result c.in_default-call.not-Trap))).0

pub returns-clause-effects : goal.returns-clause-effects
returns-clause-effects g c =
    subst (HadEffects c.args.self.now (done (making.making (root_register c.args.to) c.args.fields c.args.numbers) ∷ []) (root_register c.args.to)) (sym c.remember.ensures)
    (made_root c.args.self.now c.call.new.self c.args.to c.register.result c.args.fields c.args.numbers c.register.ensures c.making.result c.making.ensures
    c.is_too_long.result c.is_too_long.ensures c.if-is_too_long.false (c.call.ensures.executed (is_done c.call.result c.in_default-call.not-Trap))).1
