use Rattle.std.proofs.Common.{◌∙◌, ◌≤◌, sym, subst}
use Rattle.std.specs.Str.Parse.{ParsesUnsigned, ExplainsUnsignedError, HasUnsignedDigitsIfOk}
use Rattle.clap.specs.Matches.{found_of}
use Rattle.clap.specs.Walk.{one_of, rows_of}
use Rattle.clap.proofs.WalkLemmas.{one_text-rows}
use Rattle.simple_commands.proofs.Getters.{number_is, number_range}
use Rattle.simple_commands.proofs.readers.number.Goals as goal

pub returns : goal.returns
returns c =
    let id = c.args.id.now in
    let found = found_of c.args.matches.now in
    let text = one_text-rows found id in
    record {
      value = c.unwrap_or.ensures ∙ number_is _ (λ bs r. ParsesUnsigned 32 10 bs r × ExplainsUnsignedError 10 bs r × HasUnsignedDigitsIfOk bs r) 32 (λ u x g. g.0)
          (one_of id (rows_of found)) c.get_one.result c.args.default (λ e. c.get_one.ensures.none (text ∙ e)) (λ t e. c.get_one.ensures.value t (text ∙ e))
          (λ t is. let x = c.requires.3 t is in (c.requires.0, c.requires.1, x.0, c.requires.2, x.1, x.2));
      range = λ least most holds small low high.
          let got = number_range _ (λ bs r. ParsesUnsigned 32 10 bs r × ExplainsUnsignedError 10 bs r × HasUnsignedDigitsIfOk bs r) 32 (λ u x g. g.0)
          least most (one_of id (rows_of found)) c.get_one.result c.args.default (λ e. c.get_one.ensures.none (text ∙ e)) (λ t e. c.get_one.ensures.value t (text ∙ e)) holds small low high in
          subst (λ n. (least ≤ n) × (n ≤ most)) (sym c.unwrap_or.ensures) got;
    }
