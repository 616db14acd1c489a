-- What the readers of options and flags read, by the rows.
use Rattle.std.specs.Prelude.{◌≡◌, ◌<◌, ◌^◌, ℕ, Bool, pos, true, false, List, Option, Some, find, option_map}
use Rattle.std.specs.Option.{option_map_or}
use Rattle.std.specs.Str.{bytes_eq}
use Rattle.std.specs.Str.Parse.{digits_value, without_leading_plus}
use Rattle.clap.specs.Lexer.{without_minus}
use Rattle.clap.specs.Values.{IsSignedIn, IsUnsignedIn}
use Rattle.clap.specs.Walk.{Row, Text, one_of}
use Rattle.clap.specs.declared.parser.matches.ValueSource.{ValueSource}
use Rattle.clap.specs.declared.parser.matches.ValueSource.TheVariants.{DefaultValue, CommandLine}

-- the number that a text names in decimal digits, past a `+`
abbrev pub number_in : Text → ℕ
number_in text = digits_value 10 (without_leading_plus text)

-- the number that was given for an argument, or the default
abbrev pub number_or : ℕ → Text → List Row → ℕ
number_or default id rows = option_map_or number_in (one_of id rows) default

-- the number that was given for an argument, if one was
abbrev pub number_of : Text → List Row → Option ℕ
number_of id rows = option_map number_in (one_of id rows)

abbrev pub is_command_line : ValueSource → Bool
is_command_line CommandLine = true
is_command_line DefaultValue = false

abbrev pub came_in_words : Row → Bool
came_in_words r = option_map_or is_command_line r.source false

-- whether an argument stands among the words
abbrev pub was_given : Text → List Row → Bool
was_given id rows = option_map_or came_in_words (find (λ r. bytes_eq r.id id) rows) false

-- the text of an argument is that of a number from least to most, whose `-` before a zero was taken off
abbrev pub HoldsNumber : ℕ → ℕ → Text → List Row → Type 0
HoldsNumber least most id rows = (t : Text) → one_of id rows ≡ Some t
    → (v : Text) × (t ≡ without_minus v) × IsSignedIn (pos least) (pos most) v

-- the text of an argument is that of a number up to most
abbrev pub HoldsUnsigned : ℕ → Text → List Row → Type 0
HoldsUnsigned most id rows = (t : Text) → one_of id rows ≡ Some t → IsUnsignedIn 0 most t

-- the text of an argument names a number that 32 bits hold
abbrev pub IsReadable : Text → List Row → Type 0
IsReadable id rows = (least : ℕ) × (most : ℕ) × (most < 2 ^ 32) × HoldsNumber least most id rows
