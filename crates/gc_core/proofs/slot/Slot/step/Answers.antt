use Rattle.std.proofs.Common.{◌≡◌, ℕ, ◌+◌, ◌<◌, sym, ap, subst, ◌∙◌, arith}
use Rattle.gc_worker.specs.declared.steps.stepped.Stepped.TheVariants.{Effect}
use Rattle.gc_worker.specs.Workers.Counted.{counted}
use Rattle.gc_worker.specs.Workers.Held.{Held}
use Rattle.gc_worker.specs.Steps.Made.{MayMake, step_made}
use Rattle.gc_worker.specs.Steps.Stepped.{IsSound}
use Rattle.gc_worker.proofs.Workers.Printing.{made_prints}
use Rattle.gc_core.proofs.Events.Tasks.{may_apart, sound_apart, words_apart, told_apart, made_effect, made_other}
use Rattle.gc_core.proofs.slot.Slot.step.Goals as goal

pub step-told-requires : goal.step-told-requires
step-told-requires c = record {
  may = may_apart c.self.inside.count c.self.inside.worker (subst IsSound (sym c.self.view_is) c.requires.sound) c.args.on.now
      (subst (λ (x : Held). MayMake x c.args.on.now) (sym c.self.view_is) c.requires.may);
}

pub returns-in-Effect-clause-state : goal.returns-in-Effect-clause-state
returns-in-Effect-clause-state c =
    ap (counted (c.self.inside.count + 1)) c.step-told.ensures.state
    ∙ (made_effect c.self.inside.count c.self.inside.worker (subst IsSound (sym c.self.view_is) c.requires.sound) c.args.on.now c.in-Effect.field-0 (sym c.step-told.ensures.tells ∙ c.in-Effect.is)
    ∙ ap (λ (x : Held). (step_made x c.args.on.now).held) c.self.view_is)

pub returns-in-Effect-clause-words : goal.returns-in-Effect-clause-words
returns-in-Effect-clause-words c =
    c.step-told.ensures.words ∙ (words_apart c.self.inside.count c.self.inside.worker (subst IsSound (sym c.self.view_is) c.requires.sound) c.args.on.now ∙ ap (λ (x : Held). (step_made x c.args.on.now).words) c.self.view_is)

pub returns-in-Effect-clause-tells : goal.returns-in-Effect-clause-tells
returns-in-Effect-clause-tells c =
    c.step-told.ensures.tells ∙ (told_apart c.self.inside.count c.self.inside.worker (subst IsSound (sym c.self.view_is) c.requires.sound) c.args.on.now ∙ ap (λ (x : Held). (step_made x c.args.on.now).told) c.self.view_is)

pub returns-in_default : goal.returns-in_default
returns-in_default c = record {
  state = ap (counted c.self.inside.count) c.step-told.ensures.state
      ∙ (made_other c.self.inside.count c.self.inside.worker (subst IsSound (sym c.self.view_is) c.requires.sound) c.args.on.now (λ m is. c.in_default.not-Effect m (c.step-told.ensures.tells ∙ is))
      ∙ ap (λ (x : Held). (step_made x c.args.on.now).held) c.self.view_is);
  words = c.step-told.ensures.words ∙ (words_apart c.self.inside.count c.self.inside.worker (subst IsSound (sym c.self.view_is) c.requires.sound) c.args.on.now ∙ ap (λ (x : Held). (step_made x c.args.on.now).words) c.self.view_is);
  tells = c.step-told.ensures.tells ∙ (told_apart c.self.inside.count c.self.inside.worker (subst IsSound (sym c.self.view_is) c.requires.sound) c.args.on.now ∙ ap (λ (x : Held). (step_made x c.args.on.now).told) c.self.view_is);
}

pub overflow_add-self : goal.overflow_add-self
overflow_add-self c =
    let room = subst (λ (x : Held). (m : ℕ) → (step_made x c.args.on.now).told ≡ Effect m → x.account.executed < 4294967295) (sym c.self.view_is) c.requires.room in
    let l = room c.in-Effect.field-0 (sym (told_apart c.self.inside.count c.self.inside.worker (subst IsSound (sym c.self.view_is) c.requires.sound) c.args.on.now) ∙ (sym c.step-told.ensures.tells ∙ c.in-Effect.is)) in
    omega (arith, l)

pub invariant_of-self : goal.invariant_of-self
invariant_of-self c =
    made_prints c.self.inside.worker c.step-told.new.self c.args.on.now (sound_apart c.self.inside.count c.self.inside.worker (subst IsSound (sym c.self.view_is) c.requires.sound)) c.step-told.ensures.state ∙ c.self.invariant

pub invariant_of-self-in_default : goal.invariant_of-self-in_default
invariant_of-self-in_default c =
    made_prints c.self.inside.worker c.step-told.new.self c.args.on.now (sound_apart c.self.inside.count c.self.inside.worker (subst IsSound (sym c.self.view_is) c.requires.sound)) c.step-told.ensures.state ∙ c.self.invariant
