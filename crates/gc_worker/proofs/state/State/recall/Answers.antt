use Rattle.std.proofs.Common.{sym, ap, ◌∙◌, subst}
use Rattle.gc_worker.specs.Workers.Fits.{FitsStage}
use Rattle.gc_worker.specs.Workers.Held.{Held}
use Rattle.gc_worker.specs.Steps.Stepped.{uncounted}
use Rattle.gc_worker.specs.Steps.Turned.{goes_on, recalled, turned}
use Rattle.gc_worker.specs.contracts.state.State.{the_view}
use Rattle.gc_worker.specs.declared.stage.Stage.TheVariants.{Recalls}
use Rattle.gc_worker.proofs.Words.Read.{goes_on_anywhere, recall_turned}
use Rattle.gc_worker.proofs.Workers.Fitting.{fits_moved}
use Rattle.gc_worker.proofs.state.State.recall.Goals as goal

pub go_on_with-requires : goal.go_on_with-requires
go_on_with-requires c =
    let x = the_view c.self.inside in
    let y = recalled x c.in-Finished.recalled in
    let Fitting : Held → Type 0 = λ z. FitsStage z z.stage in
    let turns = recall_turned x c.in-Recalls.recall c.take.new.self c.in-Recalls.after c.args.reply c.in-Finished.recalled c.in-Recalls.is c.take.ensures.state (sym c.take.ensures.tells ∙ c.in-Finished.is) in
    fits_moved y (goes_on y c.in-Recalls.after) (Recalls c.take.new.self c.in-Recalls.after) (goes_on y c.in-Recalls.after)
    (subst Fitting turns (subst (λ (z : Held). Fitting (turned z c.args.reply)) (sym c.self.view_is) c.requires.after.stage))

pub returns-in-Finished : goal.returns-in-Finished
returns-in-Finished c =
    let x = the_view c.self.inside in
    let y = recalled x c.in-Finished.recalled in
    let turns = recall_turned x c.in-Recalls.recall c.take.new.self c.in-Recalls.after c.args.reply c.in-Finished.recalled c.in-Recalls.is c.take.ensures.state (sym c.take.ensures.tells ∙ c.in-Finished.is) in
    c.go_on_with.ensures
    ∙ goes_on_anywhere y (Recalls c.take.new.self c.in-Recalls.after) c.in-Recalls.after
    ∙ ap uncounted (sym turns)
    ∙ ap (λ (z : Held). uncounted (turned z c.args.reply)) c.self.view_is
