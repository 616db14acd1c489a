use Rattle.std.proofs.Common.{◌≡◌, Some, refl, sym, ap, ◌∙◌, subst}
use Rattle.atom_store.specs.Step.{reply_of}
use Rattle.fault_duty.specs.Duty.{duty_machine}
use Rattle.gc_worker.specs.Workers.Fits.{FitsStage}
use Rattle.gc_worker.specs.Workers.Held.{Held}
use Rattle.gc_worker.specs.Steps.Stepped.{uncounted}
use Rattle.gc_worker.specs.Steps.Turned.{turned}
use Rattle.gc_worker.specs.Steps.Wanted.{wanted, wanted_at}
use Rattle.gc_worker.specs.contracts.state.State.{the_view}
use Rattle.gc_worker.specs.declared.stage.Stage.TheVariants.{Serves}
use Rattle.gc_worker.proofs.Words.Read.{round_turned, served_after, served_fits, served_uncounted}
use Rattle.gc_worker.proofs.Workers.BeginningAnew.{taken_anew}
use Rattle.gc_worker.proofs.Workers.Made.{has_stepped, held_made, sound_after}
use Rattle.gc_worker.proofs.state.State.serve_on.Goals as goal

pub has_served-requires-clause-round : goal.has_served-requires-clause-round
has_served-requires-clause-round c =
    let x = the_view c.self.inside in
    let Fitting : Held → Type 0 = λ y. FitsStage y y.stage in
    let made = has_stepped duty_machine c.in-Serves.duty c.step.new.self c.args.on.now c.step.ensures.state c.step.ensures.step.has_step in
    taken_anew x c.in-Serves.duty c.step.new.self c.in-Serves.field-1 (reply_of made.step c.args.on.now) c.in-Serves.is made.takes
    (subst Fitting (sym c.self.view_is) c.requires.sound.stage)

pub has_served-requires-clause-fits : goal.has_served-requires-clause-fits
has_served-requires-clause-fits c =
    let x = the_view c.self.inside in
    let Fitting : Held → Type 0 = λ y. FitsStage y y.stage in
    let made = has_stepped duty_machine c.in-Serves.duty c.step.new.self c.args.on.now c.step.ensures.state c.step.ensures.step.has_step in
    let reply = reply_of made.step c.args.on.now in
    let wants : wanted c.args.self.now ≡ Some made.step = ap wanted (sym c.self.view_is) ∙ (ap (wanted_at x) c.in-Serves.is ∙ made.is) in
    let after = sound_after c.args.self.now c.args.on.now made.step reply c.requires.may wants refl in
    let tells = ap duty_machine.told c.step.ensures.state ∙ (c.step.ensures.step.tells ∙ c.in-Finished.is) in
    let turns = round_turned x c.in-Serves.duty c.step.new.self c.in-Serves.field-1 reply c.in-Finished.end c.in-Serves.is made.takes tells in
    served_fits x (Serves c.step.new.self c.in-Serves.field-1) c.step.new.self _ _ _ c.epoch-epoch.ensures
    (subst Fitting turns (subst (λ (y : Held). Fitting (turned y reply)) (sym c.self.view_is) after.stage))

pub returns-in-Finished-clause-state : goal.returns-in-Finished-clause-state
returns-in-Finished-clause-state c =
    let x = the_view c.self.inside in
    let made = has_stepped duty_machine c.in-Serves.duty c.step.new.self c.args.on.now c.step.ensures.state c.step.ensures.step.has_step in
    let reply = reply_of made.step c.args.on.now in
    let wants : wanted c.args.self.now ≡ Some made.step = ap wanted (sym c.self.view_is) ∙ (ap (wanted_at x) c.in-Serves.is ∙ made.is) in
    let tells = ap duty_machine.told c.step.ensures.state ∙ (c.step.ensures.step.tells ∙ c.in-Finished.is) in
    let turns = round_turned x c.in-Serves.duty c.step.new.self c.in-Serves.field-1 reply c.in-Finished.end c.in-Serves.is made.takes tells in
    c.has_served.ensures.state
    ∙ served_after x (Serves c.step.new.self c.in-Serves.field-1) c.step.new.self _ _ _ c.epoch-epoch.ensures
    ∙ sym (served_uncounted x c.step.new.self _ _)
    ∙ ap uncounted (sym turns)
    ∙ ap (λ (y : Held). uncounted (turned y reply)) c.self.view_is
    ∙ ap uncounted (sym (held_made c.args.self.now c.args.on.now made.step wants))
