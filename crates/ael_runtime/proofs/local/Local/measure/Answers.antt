use Rattle.std.proofs.Common.{ap, arith, subst, sym, ◌∙◌, [], ◌∷◌}
use Rattle.mutator_asm.specs.declared.instr.Instr.TheVariants.{Len}
use Rattle.std.proofs.lemmas.Option.{same_Some}
use Rattle.ael_threads.specs.Seats.{Seated}
use Rattle.ael_runtime.specs.declared.root.TheConstants.{SCRATCH}
use Rattle.ael_runtime.specs.Calling.{HadEffects, done}
use Rattle.ael_runtime.specs.Reading.{held, len_of, value_number, seen_heap}
use Rattle.ael_runtime.proofs.RecordCalls.{leads_tested, measured, sure_len}
use Rattle.ael_runtime.proofs.local.Local.measure.Goals as goal

pub does-requires-clause-sure : goal.does-requires-clause-sure
does-requires-clause-sure g c =
    let i = leads_tested (held c.args.self.now c.args.of) c.number_in.result c.is_some.result c.number_in.ensures c.is_some.ensures c.if-is_some.false in
    sure_len c.args.self.now SCRATCH c.args.of i.0 i.1

pub unreachable-requires : goal.unreachable-requires
unreachable-requires g c =
    let i = leads_tested (held c.args.self.now c.args.of) c.number_in.result c.is_some.result c.number_in.ensures c.is_some.ensures c.if-is_some.false in
    let m = measured c.args.self.now c.does.new.self c.args.of i.0 i.1 c.does.ensures.executed in
    c.in_default-number_in.not-Some _ (c.number_in-2.ensures ∙ ap value_number m.0)

pub remember-requires-clause-len : goal.remember-requires-clause-len
remember-requires-clause-len g c =
    let i = leads_tested (held c.args.self.now c.args.of) c.number_in.result c.is_some.result c.number_in.ensures c.is_some.ensures c.if-is_some.false in
    let m = measured c.args.self.now c.does.new.self c.args.of i.0 i.1 c.does.ensures.executed in
    let is = same_Some _ _ (sym c.in-Some-number_in.is ∙ (c.number_in-2.ensures ∙ ap value_number m.0)) in
    let same = ap (len_of (seen_heap c.does.new.self)) (m.1.others c.args.of c.requires.other c.requires.other) in
    omega (arith, is, same)

pub returns-clause-len : goal.returns-clause-len
returns-clause-len g c =
    let i = leads_tested (held c.args.self.now c.args.of) c.number_in.result c.is_some.result c.number_in.ensures c.is_some.ensures c.if-is_some.false in
    let m = measured c.args.self.now c.does.new.self c.args.of i.0 i.1 c.does.ensures.executed in
    same_Some _ _ (sym c.in-Some-number_in.is ∙ (c.number_in-2.ensures ∙ ap value_number m.0)) ∙ ap (λ (s : Seated). len_of (seen_heap s) (held c.args.self.now c.args.of)) (sym c.remember.ensures)

pub returns-clause-effects : goal.returns-clause-effects
returns-clause-effects g c =
    let i = leads_tested (held c.args.self.now c.args.of) c.number_in.result c.is_some.result c.number_in.ensures c.is_some.ensures c.if-is_some.false in
    let m = measured c.args.self.now c.does.new.self c.args.of i.0 i.1 c.does.ensures.executed in
    subst (HadEffects c.args.self.now (done (Len SCRATCH c.args.of) ∷ []) SCRATCH) (sym c.remember.ensures) m.1
