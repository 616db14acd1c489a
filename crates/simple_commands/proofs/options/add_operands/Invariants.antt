use Rattle.std.proofs.Common.{◌≡◌, ◌++◌, false, map, take}
use Rattle.std.specs.Prelude.{IfOk}
use Rattle.clap.specs.Walk.{texts}
use Rattle.clap.specs.Words.{app_of}
use Rattle.clap.specs.declared.builder.Command.TheViews.{out-Command}
use Rattle.simple_commands.specs.Options.{number_operand, row_of, wide_operand, with_rules}
use Rattle.simple_commands.proofs.options.add_operands.Given as goal

-- the rows so far are added
abbrev pub invariant-loop-row : goal.invariant-loop-row
invariant-loop-row l = record {
  app : IfOk l.command (λ r. app_of r ≡ with_rules (app_of l.fn.command) (map number_operand (map row_of (take l.row-index l.numbers))));
  local : IfOk l.command (λ r. (out-Command r).has_globals ≡ false);
}

abbrev pub invariant-loop-name : goal.invariant-loop-name
invariant-loop-name l = record {
  app : IfOk l.command (λ r. app_of r ≡ with_rules (app_of l.fn.command) (map number_operand (map row_of l.numbers) ++ map wide_operand (texts (take l.name-index l.wide))));
  local : IfOk l.command (λ r. (out-Command r).has_globals ≡ false);
}
