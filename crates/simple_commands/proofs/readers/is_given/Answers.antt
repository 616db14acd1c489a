use Rattle.std.proofs.Common.{◌∙◌, ap, false}
use Rattle.std.specs.Option.{option_map_or}
use Rattle.clap.specs.Matches.{found_of}
use Rattle.simple_commands.specs.Readers.{is_command_line}
use Rattle.simple_commands.proofs.Getters.{given_is}
use Rattle.simple_commands.proofs.readers.is_given.Goals as goal

pub returns : goal.returns
returns c = c.is_from_words.ensures ∙ ap (λ o. option_map_or is_command_line o false) c.value_source.ensures ∙ given_is (found_of c.args.matches.now) c.args.id.now
