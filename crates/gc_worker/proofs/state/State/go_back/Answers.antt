use Rattle.std.proofs.Common.{ap, subst, sym, ◌∙◌}
use Rattle.gc_worker.specs.Workers.Fits.{FitsStage}
use Rattle.gc_worker.specs.Workers.Held.{header_for}
use Rattle.gc_worker.proofs.Workers.Fitting.{fits_before}
use Rattle.gc_worker.specs.Steps.Stepped.{back_at}
use Rattle.gc_worker.specs.Steps.Turned.{back_from, goes_back, places}
use Rattle.gc_worker.proofs.state.State.go_back.Goals as goal

-- src/steps/serving.rt:253:30
pub begin_placing-requires : goal.begin_placing-requires
begin_placing-requires c =
    let x = record c.args.self.now { epoch = c.args.epoch } in
    let is = sym (ap (λ y. back_at y.stage) c.self.view_is) ∙ ap back_at c.in-Serves.is ∙ c.in-ToPlace.is in
    let fits = fits_before x (places x (header_for x)) (places x (header_for x)) (subst (λ b. FitsStage (back_from x b) (goes_back x b)) is c.requires.fits) in
    subst (λ y. FitsStage (record y { epoch = c.args.epoch }) (places (record y { epoch = c.args.epoch }) (header_for (record y { epoch = c.args.epoch })))) (sym c.self.view_is) fits
