use Rattle.std.proofs.Common.{◌≡◌, ◌++◌, false, map, take}
use Rattle.std.specs.Prelude.{IfOk}
use Rattle.clap.specs.Walk.{texts}
use Rattle.clap.specs.Words.{app_of}
use Rattle.clap.specs.declared.builder.Command.TheViews.{out-Command}
use Rattle.simple_commands.specs.Options.{flag_rule, number_rule, row_of, wide_rule, with_rules}
use Rattle.simple_commands.proofs.options.add_options.Given as goal

-- the rows so far are added
abbrev pub invariant-loop-option : goal.invariant-loop-option
invariant-loop-option l = record {
  app : IfOk l.command (λ r. app_of r ≡ with_rules (app_of l.fn.command) (map number_rule (map row_of (take l.option-index l.numbers))));
  local : IfOk l.command (λ r. (out-Command r).has_globals ≡ false);
}

abbrev pub invariant-loop-name : goal.invariant-loop-name
invariant-loop-name l = record {
  app : IfOk l.command (λ r. app_of r ≡ with_rules (app_of l.fn.command) (map number_rule (map row_of l.numbers) ++ map wide_rule (texts (take l.name-index l.wide))));
  local : IfOk l.command (λ r. (out-Command r).has_globals ≡ false);
}

abbrev pub invariant-loop-flag_name : goal.invariant-loop-flag_name
invariant-loop-flag_name l = record {
  app : IfOk l.command (λ r. app_of r ≡ with_rules (app_of l.fn.command) (map number_rule (map row_of l.numbers) ++ map wide_rule (texts l.wide) ++ map flag_rule (texts (take l.flag_name-index l.flags))));
  local : IfOk l.command (λ r. (out-Command r).has_globals ≡ false);
}
