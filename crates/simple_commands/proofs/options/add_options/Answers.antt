use Rattle.std.proofs.Common.{◌<◌, ◌++◌, [], arith, length, map}
use Rattle.std.specs.Borrow.{Bor}
use Rattle.clap.specs.Walk.{Text, texts}
use Rattle.clap.specs.Words.{app_of}
use Rattle.simple_commands.specs.Options.{flag_rule, number_rule, row_of, wide_rule}
use Rattle.simple_commands.proofs.Adding.{one_more, same_rules}
use Rattle.simple_commands.proofs.options.add_options.Goals as goal

pub loop-option-preserved : goal.loop-option-preserved
loop-option-preserved c =
    let within : c.loop-option.option-index < length c.args.numbers.now = omega arith in
    record {
      app = same_rules _ _ (one_more [] number_rule row_of _ _ _ _ c.number_option.ensures.rule within) (c.add-command.ensures.app (app_of c.args.command) _ c.loop-option.invariant.app);
      local = c.add-command.ensures.local;
    }

pub loop-name-preserved : goal.loop-name-preserved
loop-name-preserved c =
    let within : c.loop-name.name-index < length c.args.wide.now = omega arith in
    let before = map number_rule (map row_of c.args.numbers.now) in
    record {
      app = same_rules _ _ (one_more before wide_rule (λ (t : Bor Text). t.now) _ _ _ _ c.wide_option.ensures.rule within) (c.add-command-in-loop-name.ensures.app (app_of c.args.command) _ c.loop-name.invariant.app);
      local = c.add-command-in-loop-name.ensures.local;
    }

pub loop-flag_name-preserved : goal.loop-flag_name-preserved
loop-flag_name-preserved c =
    let within : c.loop-flag_name.flag_name-index < length c.args.flags.now = omega arith in
    let before = map number_rule (map row_of c.args.numbers.now) ++ map wide_rule (texts c.args.wide.now) in
    record {
      app = same_rules _ _ (one_more before flag_rule (λ (t : Bor Text). t.now) _ _ _ _ c.flag.ensures.rule within) (c.add-command-in-loop-flag_name.ensures.app (app_of c.args.command) _ c.loop-flag_name.invariant.app);
      local = c.add-command-in-loop-flag_name.ensures.local;
    }
