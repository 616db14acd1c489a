-- Arguments, added to a command one after another.
use Rattle.std.proofs.Common.{◌≡◌, ◌+◌, ◌<◌, ℕ, List, [], ◌∷◌, ◌++◌, get_or, length, map, take, append_assoc, subst, ap, ◌∙◌}
use Rattle.std.specs.Prelude.{IfOk, Result}
use Rattle.std.proofs.lemmas.List.{map-append, take_more}
use Rattle.clap.specs.Simple.{App}
use Rattle.clap.specs.Walk.{Rule}
use Rattle.clap.specs.Words.{app_of}
use Rattle.clap.specs.declared.builder.Command.{Command}
use Rattle.simple_commands.specs.Options.{with_rules}

-- the command, unless there was no memory for it, has arguments that are the same
pub same_rules : {E : Type 0} (made : Result Command E) (a : App) {rules all : List Rule} → rules ≡ all
    → IfOk made (λ r. app_of r ≡ with_rules a rules) → IfOk made (λ r. app_of r ≡ with_rules a all)
same_rules made a is added = subst (λ (rules : List Rule). IfOk made (λ r. app_of r ≡ with_rules a rules)) is added

-- the row that comes next stands behind those before it
pub one_more : {X Y : Type 0} (before : List Rule) (f : Y → Rule) (g : X → Y) (table : List X) (i : ℕ) (d : X) (rule : Rule) → rule ≡ f (g (get_or table i d))
    → i < length table → (before ++ map f (map g (take i table))) ++ rule ∷ [] ≡ before ++ map f (map g (take (i + 1) table))
one_more before f g table i d rule is within = rw (is, take_more table i d within, map-append, map-append, append_assoc)

-- a command to which an argument was added, behind those before it
pub behind : (a old new : App) (rules : List Rule) (rule : Rule) → old ≡ with_rules a rules → new ≡ with_rules old (rule ∷ []) → new ≡ with_rules a (rules ++ rule ∷ [])
behind a old new rules rule before is = is ∙ ap (λ (x : App). with_rules x (rule ∷ [])) before ∙ rw append_assoc
