use Rattle.std.proofs.Common.{◌≡◌, Some, refl, sym, ap, ◌∙◌}
use Rattle.atom_store.specs.Step.{reply_of}
use Rattle.alloc_end.specs.Place.{place_machine}
use Rattle.gc_worker.specs.Steps.Wanted.{wanted, wanted_at}
use Rattle.gc_worker.specs.contracts.state.State.{the_view}
use Rattle.gc_worker.proofs.Workers.Fitting.{placing_guarded}
use Rattle.gc_worker.proofs.Workers.Made.{has_stepped, sound_after}
use Rattle.gc_worker.proofs.state.State.place_on.Goals as goal

pub go_on_placing-requires-clause-fits : goal.go_on_placing-requires-clause-fits
go_on_placing-requires-clause-fits c =
    let made = has_stepped place_machine c.in-Places.place c.step.new.self c.args.on.now c.step.ensures.state c.step.ensures.step.has_step in
    let wants : wanted c.args.self.now ≡ Some made.step =
    ap wanted (sym c.self.view_is) ∙ (ap (wanted_at (the_view c.self.inside)) c.in-Places.is ∙ made.is) in
    let after = sound_after c.args.self.now c.args.on.now made.step (reply_of made.step c.args.on.now) c.requires.may wants refl in
    let tells = ap place_machine.told c.step.ensures.state ∙ (c.step.ensures.step.tells ∙ c.in-More.is) in
    placing_guarded _ _ c.in-Places.place c.step.new.self (reply_of made.step c.args.on.now) c.self.view_is c.in-Places.is made.takes tells
    after.stage
