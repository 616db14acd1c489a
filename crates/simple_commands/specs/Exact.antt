-- Commands of `clap` of which it can be said exactly which words they take.
use Rattle.std.specs.Prelude.{Bool, true, false, not, ◌&&◌, List, [], ◌∷◌}
use Rattle.std.specs.List.{list_all, list_any}
use Rattle.std.specs.Str.{bytes_eq}
use Rattle.clap.specs.Faults.{has_free_rules, is_simple_and_free}
use Rattle.clap.specs.Simple.{App, Shape, built}
use Rattle.clap.specs.Takes.{default_passes}
use Rattle.clap.specs.Walk.{Rule, action_of}
use Rattle.clap.specs.declared.builder.action.ArgAction.{ArgAction}
use Rattle.clap.specs.declared.builder.action.ArgAction.TheVariants.{Set, SetTrue}

-- the defaults pass, and no argument has a rule on another
abbrev pub is_well_made : Shape → Bool
is_well_made s = list_all default_passes s.rules && has_free_rules s

-- one use gives one value: that of an option or of a positional, or of a flag
abbrev pub gives_one : ArgAction → Bool
gives_one Set = true
gives_one SetTrue = true
gives_one _ = false

-- no two arguments have the same id
abbrev pub ids_differ : List Rule → Bool
ids_differ [] = true
ids_differ (a ∷ rest) = not (list_any (λ b. bytes_eq b.id a.id) rest) && ids_differ rest

-- each argument gives one value, under an id of its own
abbrev pub has_single_values : Shape → Bool
has_single_values s = list_all (λ a. gives_one (action_of a)) s.rules && ids_differ s.rules

-- The command is a simple one, and once built its arguments have no rules on one another and their
-- defaults pass; those of its subcommands give one value each. It has no flag that asks for help.
abbrev pub is_exact : App → Bool
is_exact a = is_simple_and_free a && (is_well_made (built a).top
    && (list_all is_well_made (built a).subs && list_all has_single_values (built a).subs))
