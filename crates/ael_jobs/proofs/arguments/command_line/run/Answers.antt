use Rattle.std.proofs.Common.{ap, ◌∙◌}
use Rattle.std.proofs.lemmas.Result.{IfOk-weaker}
use Rattle.clap.specs.Simple.{App}
use Rattle.simple_commands.specs.Options.{rules_of, with_rules}
use Rattle.ael_jobs.specs.Arguments.Options.{run_flags, run_numbers, run_wide}
use Rattle.ael_jobs.proofs.arguments.command_line.run.Goals as goal

pub returns-clause-app : goal.returns-clause-app
returns-clause-app c =
    let with_these = λ (a : App). with_rules a (rules_of run_numbers run_wide run_flags) in
    IfOk-weaker c.add_options.result _ _ (λ r h. h ∙ ap with_these c.new-run.ensures.app) c.add_options.ensures.app
