use Rattle.std.proofs.Common.{◌∙◌, lit<}
use Rattle.std.specs.Str.Parse.{ParsesUnsigned, ExplainsUnsignedError, HasUnsignedDigitsIfOk}
use Rattle.clap.specs.Matches.{found_of}
use Rattle.clap.specs.Walk.{one_of, rows_of}
use Rattle.clap.proofs.WalkLemmas.{one_text-rows}
use Rattle.simple_commands.proofs.Getters.{unsigned_is}
use Rattle.simple_commands.proofs.readers.wide_number.Goals as goal

pub returns : goal.returns
returns c =
    let id = c.args.id.now in
    let found = found_of c.args.matches.now in
    let text = one_text-rows found id in
    unsigned_is _ (λ bs r. ParsesUnsigned 64 10 bs r × ExplainsUnsignedError 10 bs r × HasUnsignedDigitsIfOk bs r) 64 (λ u x g. g.0) 18446744073709551615
    (one_of id (rows_of found)) c.get_one.result (lit< tt) (λ e. c.get_one.ensures.none (text ∙ e)) (λ t e. c.get_one.ensures.value t (text ∙ e)) c.requires
