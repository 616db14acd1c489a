use Rattle.std.proofs.Common.{◌<◌, [], arith, length, map}
use Rattle.std.specs.Borrow.{Bor}
use Rattle.clap.specs.Walk.{Text}
use Rattle.clap.specs.Words.{app_of}
use Rattle.simple_commands.specs.Options.{number_operand, row_of, wide_operand}
use Rattle.simple_commands.proofs.Adding.{one_more, same_rules}
use Rattle.simple_commands.proofs.options.add_operands.Goals as goal

pub loop-row-preserved : goal.loop-row-preserved
loop-row-preserved c =
    let within : c.loop-row.row-index < length c.args.numbers.now = omega arith in
    record {
      app = same_rules _ _ (one_more [] number_operand row_of _ _ _ _ c.number_operand.ensures.rule within) (c.add-command.ensures.app (app_of c.args.command) _ c.loop-row.invariant.app);
      local = c.add-command.ensures.local;
    }

pub loop-name-preserved : goal.loop-name-preserved
loop-name-preserved c =
    let within : c.loop-name.name-index < length c.args.wide.now = omega arith in
    let before = map number_operand (map row_of c.args.numbers.now) in
    record {
      app = same_rules _ _ (one_more before wide_operand (λ (t : Bor Text). t.now) _ _ _ _ c.wide_operand.ensures.rule within) (c.add-command-in-loop-name.ensures.app (app_of c.args.command) _ c.loop-name.invariant.app);
      local = c.add-command-in-loop-name.ensures.local;
    }
