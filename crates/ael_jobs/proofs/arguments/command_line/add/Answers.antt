use Rattle.std.proofs.Common.{ap₂, ap, ◌∙◌}
use Rattle.std.proofs.lemmas.Result.{IfOk-weaker}
use Rattle.clap.specs.Words.{App, with_subcommand}
use Rattle.ael_jobs.proofs.arguments.command_line.add.Goals as goal

pub returns : goal.returns
returns c = λ a s first second.
    let top = λ (x : App). x.top in
    IfOk-weaker c.subcommand.result _ _ (λ r h. h.shape (rw c.in-Ok-sub.is at c.requires) ∙ ap₂ with_subcommand (rw c.in-Ok.is at first) (ap top (rw c.in-Ok-sub.is at second))) c.subcommand.ensures
