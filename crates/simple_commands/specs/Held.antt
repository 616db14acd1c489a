-- What the rows of a subcommand hold, once its command took the words.
use Rattle.std.specs.Prelude.{◌≡◌, ◌⊎◌, ⊤, List, [], ◌∷◌, Some}
use Rattle.clap.specs.Facts.{parser_of_value}
use Rattle.clap.specs.Simple.{App, Shape, built}
use Rattle.clap.specs.Values.{Accepts, read_as}
use Rattle.clap.specs.Walk.{Row, Rule, Text, one_of, reading_by}

-- the text that a getter reads of an argument is that of a value which its parser accepts
abbrev pub HoldsValue : Rule → List Row → Type 0
HoldsValue a rows = (t : Text) → one_of a.id rows ≡ Some t
    → (v : Text) × (t ≡ read_as (reading_by a) v) × Accepts a.ignore_case (parser_of_value a.parser) v

-- that of each argument
abbrev pub HoldsValues : List Rule → List Row → Type 0
HoldsValues [] rows = ⊤
HoldsValues (a ∷ rest) rows = HoldsValue a rows × HoldsValues rest rows

-- these are the name of one of the subcommands, and rows that hold values of its arguments
abbrev pub IsAmong : List Shape → Text × List Row → Type 0
IsAmong [] p = ⊥
IsAmong (s ∷ subs) p = ((p.0 ≡ s.name) × HoldsValues s.rules p.1) ⊎ IsAmong subs p

-- the name of a subcommand of the command, and rows that hold values of its arguments
abbrev pub IsSubcommandOf : App → Text × List Row → Type 0
IsSubcommandOf a p = IsAmong (built a).subs p
