use Rattle.std.proofs.Common.{ap, ◌∙◌}
use Rattle.std.proofs.lemmas.Result.{IfOk-weaker}
use Rattle.clap.specs.Simple.{App}
use Rattle.simple_commands.specs.Options.{operand_rules_of, with_rules}
use Rattle.ael_jobs.specs.Arguments.Options.{bench_numbers, bench_wide}
use Rattle.ael_jobs.proofs.arguments.command_line.bench.Goals as goal

pub returns-clause-app : goal.returns-clause-app
returns-clause-app c =
    let with_these = λ (a : App). with_rules a (operand_rules_of bench_numbers bench_wide) in
    IfOk-weaker c.add_operands.result _ _ (λ r h. h ∙ ap with_these c.new-bench.ensures.app) c.add_operands.ensures.app
