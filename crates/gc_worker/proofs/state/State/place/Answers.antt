use Rattle.std.proofs.Common.{sym, ◌∙◌}
use Rattle.gc_worker.proofs.Workers.Fitting.{placing_guarded}
use Rattle.gc_worker.proofs.state.State.place.Goals as goal

pub go_on_placing-requires-clause-fits : goal.go_on_placing-requires-clause-fits
go_on_placing-requires-clause-fits c =
    placing_guarded _ _ c.in-Places.place c.take.new.self c.args.reply c.self.view_is c.in-Places.is c.take.ensures.state (sym c.take.ensures.tells ∙ c.in-More.is) c.requires.after.stage
