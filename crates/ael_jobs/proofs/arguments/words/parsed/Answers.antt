use Rattle.std.proofs.Common.{◌≡◌, true, false, map, subst}
use Rattle.std.specs.Prelude.{Err, IfOk, OnOk, string_bytes}
use Rattle.std.proofs.lemmas.Result.{IfOk-weaker}
use Rattle.clap.specs.Simple.{App, subcommand_of, subcommand_rows_of}
use Rattle.clap.specs.Takes.{takes}
use Rattle.simple_commands.specs.declared.parsing.WordsError.TheVariants.{Refused}
use Rattle.ael_jobs.proofs.Inputs.Parsed.{exact, known}
use Rattle.ael_jobs.proofs.arguments.words.parsed.Goals as goal

pub parse-requires : goal.parse-requires
parse-requires c = exact _ c.in-Ok.ensures

pub returns-in-Ok : goal.returns-in-Ok
returns-in-Ok c =
    let words = map string_bytes c.args.words.now in
    record {
      taken = subst (λ (a : App). OnOk c.parse.result (takes a words ≡ true)) c.in-Ok.ensures c.parse.ensures.taken;
      subcommand = subst (λ (a : App). IfOk c.parse.result (λ m. subcommand_rows_of m ≡ subcommand_of a words)) c.in-Ok.ensures c.parse.ensures.subcommand;
      known = IfOk-weaker c.parse.result _ _ (λ m h. known _ _ c.in-Ok.ensures h) c.parse.ensures.values;
      refused = subst (λ (a : App). c.parse.result ≡ Err Refused → takes a words ≡ false) c.in-Ok.ensures c.parse.ensures.refused;
    }
