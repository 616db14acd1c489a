use Rattle.std.proofs.Common.{ap, ◌∙◌}
use Rattle.std.proofs.lemmas.Result.{IfOk-weaker}
use Rattle.clap.specs.Simple.{App}
use Rattle.simple_commands.specs.Options.{rules_of, with_rules}
use Rattle.ael_jobs.specs.Arguments.Options.{concord_flags, concord_numbers, concord_wide}
use Rattle.ael_jobs.proofs.arguments.command_line.concord.Goals as goal

pub returns-clause-app : goal.returns-clause-app
returns-clause-app c =
    let with_these = λ (a : App). with_rules a (rules_of concord_numbers concord_wide concord_flags) in
    IfOk-weaker c.add_options.result _ _ (λ r h. h ∙ ap with_these c.new-concord.ensures.app) c.add_options.ensures.app
