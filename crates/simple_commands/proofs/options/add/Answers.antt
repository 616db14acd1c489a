use Rattle.std.proofs.Common.{◌≡◌}
use Rattle.std.proofs.lemmas.Result.{IfOk-at_ok, IfOk-weaker}
use Rattle.clap.specs.Words.{app_of}
use Rattle.simple_commands.specs.Options.{with_rules}
use Rattle.simple_commands.proofs.Adding.{behind}
use Rattle.simple_commands.proofs.options.add.Goals as goal

pub returns-clause-app : goal.returns-clause-app
returns-clause-app c = λ a rules before.
    let was = IfOk-at_ok (λ r. app_of r ≡ with_rules a rules) c.in_ok-command.was before in
    IfOk-weaker c.arg.result _ _ (λ r h. behind _ _ _ _ _ was (h.shape c.requires.arg)) c.arg.ensures
