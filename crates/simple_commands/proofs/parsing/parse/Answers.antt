use Rattle.std.proofs.Common.{◌∙◌, sym, subst, map, List, Option}
use Rattle.std.specs.Prelude.{IfSome, string_bytes}
use Rattle.clap.specs.Walk.{Row, Text}
use Rattle.clap.specs.Words.{app_of}
use Rattle.simple_commands.specs.Held.{IsSubcommandOf}
use Rattle.simple_commands.proofs.Taking.{held, is_simple_of, is_simple_and_free_of, refused_only, taken}
use Rattle.simple_commands.proofs.parsing.parse.Goals as goal

pub returns-in-Ok-clause-taken : goal.returns-in-Ok-clause-taken
returns-in-Ok-clause-taken c =
    taken (app_of c.args.command) (map string_bytes c.args.words.now) c.requires (c.in-Ok.ensures.kinds (is_simple_and_free_of (app_of c.args.command) c.requires))

pub returns-in-Ok-clause-subcommand : goal.returns-in-Ok-clause-subcommand
returns-in-Ok-clause-subcommand c = (c.in-Ok.ensures.matches (is_simple_of (app_of c.args.command) c.requires)).1

pub returns-in-Ok-clause-values : goal.returns-in-Ok-clause-values
returns-in-Ok-clause-values c =
    let app = app_of c.args.command in
    let words = map string_bytes c.args.words.now in
    let takes = taken app words c.requires (c.in-Ok.ensures.kinds (is_simple_and_free_of (app_of c.args.command) c.requires)) in
    subst (λ (o : Option (Text × List Row)). IfSome o (IsSubcommandOf app)) (sym (c.in-Ok.ensures.matches (is_simple_of (app_of c.args.command) c.requires)).1) (held app words c.requires takes)

pub returns-in-Err-clause-refused : goal.returns-in-Err-clause-refused
returns-in-Err-clause-refused c =
    refused_only (app_of c.args.command) (map string_bytes c.args.words.now) c.kind.result c.error_of.result
    (λ taken. c.kind.ensures ∙ c.in-Err.ensures.passes taken) c.error_of.ensures
