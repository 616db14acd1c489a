use Rattle.std.proofs.Common.{sym, ap, ◌∙◌, subst}
use Rattle.gc_worker.specs.Workers.Fits.{FitsStage}
use Rattle.gc_worker.specs.Workers.Held.{Held}
use Rattle.gc_worker.specs.Steps.Stepped.{stepped_by, uncounted}
use Rattle.gc_worker.specs.Steps.Turned.{told, turned}
use Rattle.gc_worker.specs.contracts.state.State.{the_view}
use Rattle.gc_worker.specs.declared.stage.Stage.TheVariants.{Serves}
use Rattle.gc_worker.proofs.Words.Read.{round_told, round_turned, served_after, served_fits, served_uncounted}
use Rattle.gc_worker.proofs.Workers.BeginningAnew.{taken_anew}
use Rattle.gc_worker.proofs.state.State.serve.Goals as goal

pub has_served-requires-clause-round : goal.has_served-requires-clause-round
has_served-requires-clause-round c =
    let x = the_view c.self.inside in
    let Fitting : Held → Type 0 = λ y. FitsStage y y.stage in
    taken_anew x c.in-Serves.duty c.take.new.self c.in-Serves.field-1 c.args.reply c.in-Serves.is c.take.ensures.state
    (subst Fitting (sym c.self.view_is) c.requires.fits.stage)

pub has_served-requires-clause-fits : goal.has_served-requires-clause-fits
has_served-requires-clause-fits c =
    let x = the_view c.self.inside in
    let Fitting : Held → Type 0 = λ y. FitsStage y y.stage in
    let turns = round_turned x c.in-Serves.duty c.take.new.self c.in-Serves.field-1 c.args.reply c.in-Finished.end c.in-Serves.is c.take.ensures.state (sym c.take.ensures.tells ∙ c.in-Finished.is) in
    served_fits x (Serves c.take.new.self c.in-Serves.field-1) c.take.new.self _ _ _ c.epoch-epoch.ensures
    (subst Fitting turns (subst (λ (y : Held). Fitting (turned y c.args.reply)) (sym c.self.view_is) c.requires.after.stage))

pub returns-in-Finished-clause-state : goal.returns-in-Finished-clause-state
returns-in-Finished-clause-state c =
    let x = the_view c.self.inside in
    let turns = round_turned x c.in-Serves.duty c.take.new.self c.in-Serves.field-1 c.args.reply c.in-Finished.end c.in-Serves.is c.take.ensures.state (sym c.take.ensures.tells ∙ c.in-Finished.is) in
    c.has_served.ensures.state
    ∙ served_after x (Serves c.take.new.self c.in-Serves.field-1) c.take.new.self _ _ _ c.epoch-epoch.ensures
    ∙ sym (served_uncounted x c.take.new.self _ _)
    ∙ ap uncounted (sym turns)
    ∙ ap (λ (y : Held). uncounted (turned y c.args.reply)) c.self.view_is

pub returns-in-Finished-clause-tells : goal.returns-in-Finished-clause-tells
returns-in-Finished-clause-tells c =
    let x = the_view c.self.inside in
    let tells = round_told x c.in-Serves.duty c.take.new.self c.in-Serves.field-1 c.args.reply c.in-Finished.end c.in-Serves.is c.take.ensures.state (sym c.take.ensures.tells ∙ c.in-Finished.is) in
    c.has_served.ensures.tells
    ∙ ap (stepped_by x.number) (sym tells)
    ∙ ap (λ (y : Held). stepped_by y.number (told y c.args.reply)) c.self.view_is
