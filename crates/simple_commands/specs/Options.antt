-- Options, operands and flags, as rows of tables: the rules by which `clap` reads them, and what was given.
use Rattle.std.specs.Prelude.{◌≤◌, ⊤, ℕ, pos, true, List, [], ◌∷◌, ◌++◌, Some, map}
use Rattle.std.specs.Borrow.{Bor}
use Rattle.clap.specs.Simple.{App, new_rule}
use Rattle.clap.specs.Walk.{Row, Rule, Text}
use Rattle.clap.specs.declared.builder.action.ArgAction.TheVariants.{Set, SetTrue}
use Rattle.clap.specs.declared.builder.value_parser.ValueParser.{ValueParser}
use Rattle.clap.specs.declared.builder.value_parser.ValueParser.TheVariants as vp
use Rattle.simple_commands.specs.Readers.{HoldsNumber, HoldsUnsigned, number_or}
use Rattle.simple_commands.specs.declared.options.Numbers.{Numbers}

-- ---- the rules

-- `--id VALUE`
abbrev pub value_rule : Text → ValueParser → Rule
value_rule id parser = record (new_rule id) { long = Some id; action = Some Set; parser = Some parser }

-- an option with one of some numbers
abbrev pub number_rule : Text × Numbers → Rule
number_rule o = value_rule o.0 (vp.Signed (pos o.1.least) (pos o.1.most))

-- an option with any number of 64 bits
abbrev pub wide_rule : Text → Rule
wide_rule name = value_rule name (vp.Unsigned 0 18446744073709551615)

-- a flag
abbrev pub flag_rule : Text → Rule
flag_rule name = record (new_rule name) { long = Some name; action = Some SetTrue }

-- an operand, which has to be there
abbrev pub operand_rule : Text → ValueParser → Rule
operand_rule id parser = record (new_rule id) { action = Some Set; parser = Some parser; required = true }

-- an operand that is one of some numbers
abbrev pub number_operand : Text × Numbers → Rule
number_operand o = operand_rule o.0 (vp.Signed (pos o.1.least) (pos o.1.most))

-- an operand that is any number of 64 bits
abbrev pub wide_operand : Text → Rule
wide_operand name = operand_rule name (vp.Unsigned 0 18446744073709551615)

-- the text of a name, and the rows of tables with the texts of their names
abbrev pub row_of : Bor Text × Numbers → Text × Numbers
row_of o = (o.0.now, o.1)

-- the rules of three tables: of options with numbers, of options with wide numbers, and of flags
abbrev pub rules_of : List (Text × Numbers) → List Text → List Text → List Rule
rules_of numbers wide flags = map number_rule numbers ++ map wide_rule wide ++ map flag_rule flags

-- the rules of two tables of operands, in the order in which their words stand: of those with numbers, and of those with wide numbers
abbrev pub operand_rules_of : List (Text × Numbers) → List Text → List Rule
operand_rules_of numbers wide = map number_operand numbers ++ map wide_operand wide

-- a command with these arguments more
abbrev pub with_rules : App → List Rule → App
with_rules a rules = record a { top = record a.top { rules = a.top.rules ++ rules } }

-- ---- what was given

-- the number that was given, or the default
abbrev pub number_given : Text × Numbers → List Row → ℕ
number_given o rows = number_or o.1.default o.0 rows

-- the number is one that the option may have
abbrev pub IsAmongNumbers : Numbers → ℕ → Type 0
IsAmongNumbers numbers n = (numbers.least ≤ n) × (n ≤ numbers.most)

-- what the rows hold of an option or an operand with numbers, and of one with wide numbers, can be read
abbrev pub HoldsNumberOf : Text × Numbers → List Row → Type 0
HoldsNumberOf o rows = HoldsNumber o.1.least o.1.most o.0 rows

abbrev pub HoldsWide : Text → List Row → Type 0
HoldsWide name rows = HoldsUnsigned 18446744073709551615 name rows

-- that of each row of a table
abbrev pub Each : {X : Type 0} → (X → Type 0) → List X → Type 0
Each P [] = ⊤
Each P (x ∷ xs) = P x × Each P xs

-- that of each option or operand of the tables
pub record HoldOptions (numbers : List (Text × Numbers)) (wide : List Text) (rows : List Row) : Type 0 where
  pub numbers_held : Each (λ o. HoldsNumberOf o rows) numbers
  pub wide_held : Each (λ name. HoldsWide name rows) wide
