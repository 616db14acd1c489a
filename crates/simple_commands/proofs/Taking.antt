-- What an exact command takes, and what its subcommands then hold.
use Rattle.std.proofs.Common.{◌≡◌, ◌∙◌, ◌++◌, append_assoc, ℕ, map, ◌&&◌, ◌||◌, Bool, not, cond, true, false, refl, sym, ap, subst, List, [], ◌∷◌, Option, Some, None, Result, Err, true≢false, inl, inr}
use Rattle.std.specs.Prelude.{IfSome, IsTrue, find, option_map}
use Rattle.std.specs.List.{list_all, list_any}
use Rattle.std.specs.Option.{option_map_or}
use Rattle.std.specs.Str.{bytes_eq}
use Rattle.std.proofs.lemmas.Slice.Eq.{bytes_eq-Decides}
use Rattle.clap.specs.Values.{IsUnsignedIn}
use Rattle.clap.specs.Facts.{parser_of_value}
use Rattle.clap.specs.Faults.{fault_of, is_simple_and_free}
use Rattle.clap.specs.Simple.{App, Shape, filled_from, index_after, argument_words, built, entered, is_simple, label_of, names_of, rows_at, subcommand_of}
use Rattle.clap.specs.Takes.{entered_passes, level_passes, takes, value_passes, values_pass}
use Rattle.clap.specs.Walk.{Row, Rule, Text, action_of, answers_to, nothing_held, reading_by, rows_after, stop_after}
use Rattle.clap.specs.declared.error.kind.ErrorKind.{ErrorKind}
use Rattle.clap.specs.declared.error.kind.ErrorKind.TheVariants.{OutOfMemory}
use Rattle.clap.proofs.ValueTestLemmas.{accepts-Accepts}
use Rattle.simple_commands.specs.Exact.{gives_one, has_single_values, ids_differ, is_exact, is_well_made}
use Rattle.simple_commands.specs.Held.{HoldsValue, HoldsValues, IsAmong, IsSubcommandOf}
use Rattle.simple_commands.specs.Options as options
use Rattle.simple_commands.specs.Options.{HoldOptions, HoldsNumberOf, HoldsWide, flag_rule, number_operand, number_rule, operand_rules_of, rules_of, wide_operand, wide_rule}
use Rattle.simple_commands.specs.declared.options.Numbers.{Numbers}
use Rattle.simple_commands.specs.Parsing.{error_for}
use Rattle.simple_commands.specs.declared.parsing.WordsError.{WordsError}
use Rattle.simple_commands.specs.declared.parsing.WordsError.TheVariants.{NoMemory, Refused}
use Rattle.simple_commands.proofs.NoFault.{taken_without_fault, left, right}
use Rattle.simple_commands.proofs.Values.{Each, RuleFits, level_fits, one_fits}

exact_of : (a : App) → IsTrue (is_exact a) → is_exact a ≡ true
exact_of a exact = exact

pub is_simple_and_free_of : (a : App) → IsTrue (is_exact a) → is_simple_and_free a ≡ true
is_simple_and_free_of a exact = left (is_simple_and_free a) _ (exact_of a exact)

pub is_simple_of : (a : App) → IsTrue (is_exact a) → is_simple a ≡ true
is_simple_of a exact = left (is_simple a) _ (is_simple_and_free_of a exact)

-- words at which nothing is at fault are taken
pub taken : (a : App) (words : List Text) → IsTrue (is_exact a) → fault_of a words ≡ [] → takes a words ≡ true
taken a words holds none =
    let exact = exact_of a holds in
    let more = right (is_simple_and_free a) _ exact in
    let subs = right (is_well_made (built a).top) _ more in
    taken_without_fault a words (is_simple_of a holds) (left (is_well_made (built a).top) _ more) (left (list_all is_well_made (built a).subs) _ subs) none

-- ---- the values of one argument

-- arguments with the id of this one are this one
abbrev IsAlone : Rule → Rule → Type 0
IsAlone a b = bytes_eq b.id a.id ≡ true → b ≡ a

same_id : (a b : Rule) → bytes_eq a.id b.id ≡ true → bytes_eq b.id a.id ≡ true
same_id a b is = (bytes_eq-Decides b.id a.id).1 (sym ((bytes_eq-Decides a.id b.id).0 is))

-- no other argument has the id of the first
others_differ : (x : Rule) (rest : List Rule) → list_any (λ b. bytes_eq b.id x.id) rest ≡ false → Each (λ b. bytes_eq b.id x.id ≡ false) rest
others_differ x [] none = tt
others_differ x (b ∷ rest) none = go (bytes_eq b.id x.id) refl (others_differ x rest) none
  where
    go : (same : Bool) → bytes_eq b.id x.id ≡ same → (list_any (λ c. bytes_eq c.id x.id) rest ≡ false → Each (λ c. bytes_eq c.id x.id ≡ false) rest)
        → (same || list_any (λ c. bytes_eq c.id x.id) rest) ≡ false → Each (λ c. bytes_eq c.id x.id ≡ false) (b ∷ rest)
    go true is more f = absurd (true≢false f)
    go false is more f = (is, more f)

first_alone : (x : Rule) (rest : List Rule) → Each (λ b. bytes_eq b.id x.id ≡ false) rest → Each (IsAlone x) rest
first_alone x [] differ = tt
first_alone x (b ∷ rest) differ = ((λ is. absurd (true≢false (sym is ∙ differ.0))), first_alone x rest differ.1)

-- and what was alone among the rest is so beside it
still_alone : (x : Rule) (rest some : List Rule) → Each (λ b. bytes_eq b.id x.id ≡ false) some → Each (λ a. Each (IsAlone a) rest) some → Each (λ a. Each (IsAlone a) (x ∷ rest)) some
still_alone x rest [] differ alone = tt
still_alone x rest (a ∷ some) differ alone = (((λ is. absurd (true≢false (sym (same_id x a is) ∙ differ.0))), alone.0), still_alone x rest some differ.1 alone.1)

not_any : (b more : Bool) → (not b && more) ≡ true → b ≡ false
not_any true more e = absurd (true≢false (sym e))
not_any false more e = refl

-- where ids differ each argument has its id for itself
all_alone : (rules : List Rule) → ids_differ rules ≡ true → Each (λ a. Each (IsAlone a) rules) rules
all_alone [] differ = tt
all_alone (x ∷ rest) differ =
    let none = others_differ x rest (not_any (list_any (λ b. bytes_eq b.id x.id) rest) (ids_differ rest) differ) in
    (((λ is. refl), first_alone x rest none), still_alone x rest rest none (all_alone rest (right (not (list_any (λ b. bytes_eq b.id x.id) rest)) (ids_differ rest) differ)))

-- the argument itself, and those of other ids
fits : (a : Rule) (rules : List Rule) → list_all (λ b. gives_one (action_of b)) rules ≡ true → Each (IsAlone a) rules → Each (RuleFits a.id (reading_by a) (value_passes a)) rules
fits a [] single alone = tt
fits a (b ∷ rest) single alone = (
  (left (gives_one (action_of b)) _ single, λ is. subst (λ (x : Rule). (reading_by x ≡ reading_by a) × ((vs : List Text) → values_pass x vs ≡ true → list_all (value_passes a) vs ≡ true)) (sym (alone.0 is)) (refl, λ vs h. h)),
  fits a rest (right (gives_one (action_of b)) _ single) alone.1,
)

-- ---- the values of a subcommand

holds_one : (s : Shape) (words : List Text) (a : Rule) → list_all (λ b. gives_one (action_of b)) s.rules ≡ true → Each (IsAlone a) s.rules
    → level_passes s [] nothing_held words false ≡ true → HoldsValue a (rows_after s.rules [] words)
holds_one s words a single alone pass t is =
    let rows = rows_after s.rules [] words in
    let got = one_fits a.id (reading_by a) (value_passes a) rows t (level_fits a.id (reading_by a) (value_passes a) s [] (fits a s.rules single alone) words false pass) is in
    (got.0, got.1, accepts-Accepts a.ignore_case (parser_of_value a.parser) got.0 got.2)

holds_each : (s : Shape) (words : List Text) (some : List Rule) → list_all (λ b. gives_one (action_of b)) s.rules ≡ true → Each (λ a. Each (IsAlone a) s.rules) some
    → level_passes s [] nothing_held words false ≡ true → HoldsValues some (rows_after s.rules [] words)
holds_each s words [] single alone pass = tt
holds_each s words (a ∷ some) single alone pass = (holds_one s words a single alone.0 pass, holds_each s words some single alone.1 pass)

holds : (s : Shape) (words : List Text) → has_single_values s ≡ true → level_passes s [] nothing_held words false ≡ true → HoldsValues s.rules (rows_after s.rules [] words)
holds s words single pass =
    holds_each s words s.rules (left (list_all (λ b. gives_one (action_of b)) s.rules) _ single)
    (all_alone s.rules (right (list_all (λ b. gives_one (action_of b)) s.rules) _ single)) pass

later_among : (s : Shape) (subs : List Shape) (o : Option (Text × List Row)) → IfSome o (IsAmong subs) → IfSome o (IsAmong (s ∷ subs))
later_among s subs None h = tt
later_among s subs (Some p) h = inr h

entered_among : (p : Text × List Text) (subs : List Shape) → list_all has_single_values subs ≡ true
    → option_map_or (λ s. level_passes s [] nothing_held p.1 false) (find (λ s. answers_to p.0 (label_of s)) subs) true ≡ true
    → IfSome (option_map (λ s. rows_at s p.1) (find (λ s. answers_to p.0 (label_of s)) subs)) (IsAmong subs)
entered_among p [] single pass = tt
entered_among p (s ∷ subs) single pass = go (answers_to p.0 (label_of s)) (entered_among p subs (right (has_single_values s) _ single)) pass
  where
    go : (b : Bool) → (option_map_or (λ s. level_passes s [] nothing_held p.1 false) (find (λ s. answers_to p.0 (label_of s)) subs) true ≡ true
        → IfSome (option_map (λ s. rows_at s p.1) (find (λ s. answers_to p.0 (label_of s)) subs)) (IsAmong subs))
        → option_map_or (λ s. level_passes s [] nothing_held p.1 false) (cond b (Some s) (find (λ s. answers_to p.0 (label_of s)) subs)) true ≡ true
        → IfSome (option_map (λ s. rows_at s p.1) (cond b (Some s) (find (λ s. answers_to p.0 (label_of s)) subs))) (IsAmong (s ∷ subs))
    go true more f = inl (refl, holds s p.1 (left (has_single_values s) _ single) f)
    go false more f = later_among s subs _ (more f)

among : (a : App) (stop : Option (Text × List Text)) → list_all has_single_values a.subs ≡ true → entered_passes a stop ≡ true → IfSome (entered a stop) (IsAmong a.subs)
among a None single pass = tt
among a (Some p) single pass = entered_among p a.subs single pass

-- the subcommand that taken words name, and what its rows hold
pub held : (a : App) (words : List Text) → IsTrue (is_exact a) → takes a words ≡ true → IfSome (subcommand_of a words) (IsSubcommandOf a)
held a words holds is_taken =
    let exact = exact_of a holds in
    let stop = stop_after (built a).top.rules (names_of (built a)) (argument_words a words) in
    let subs = right (is_well_made (built a).top) _ (right (is_simple_and_free a) _ exact) in
    among (built a) stop (right (list_all is_well_made (built a).subs) _ subs) (left (entered_passes (built a) stop) _ (right (is_simple a) _ is_taken))

-- ---- refusals

-- an error other than want of memory comes only at words that are not taken
pub refused_only : {T : Type 0} (a : App) (words : List Text) (k : ErrorKind) (e : WordsError) → (takes a words ≡ true → k ≡ OutOfMemory)
    → e ≡ error_for k → ◌≡◌ {A = Result T WordsError} (Err e) (Err Refused) → takes a words ≡ false
refused_only {T} a words k e passes from same = go (takes a words) refl
  where
    go : (b : Bool) → takes a words ≡ b → b ≡ false
    go true is =
        let memory : error_for k ≡ NoMemory = ap error_for (passes is) in
        let back : e ≡ Refused = cc in
        let bad : NoMemory ≡ Refused = sym memory ∙ sym from ∙ back in
        cc
    go false is = refl

-- ---- options

numbers_held : (i : ℕ) (numbers : List (Text × Numbers)) (rest : List Rule) (rows : List Row) → HoldsValues (filled_from i (map number_rule numbers ++ rest)) rows
    → options.Each (λ o. HoldsNumberOf o rows) numbers × HoldsValues (filled_from i rest) rows
numbers_held i [] rest rows h = (tt, h)
numbers_held i (o ∷ numbers) rest rows h = let more = numbers_held i numbers rest rows h.1 in ((h.0, more.0), more.1)

wide_held : (i : ℕ) (wide : List Text) (rest : List Rule) (rows : List Row) → HoldsValues (filled_from i (map wide_rule wide ++ rest)) rows
    → options.Each (λ name. HoldsWide name rows) wide
wide_held i [] rest rows h = tt
wide_held i (name ∷ wide) rest rows h = ((λ t is. let got = h.0 t is in subst (λ (u : Text). IsUnsignedIn 0 18446744073709551615 u) (sym got.1) got.2), wide_held i wide rest rows h.1)

-- what the values of the tables' rules are, the options hold
pub holds_options : (i : ℕ) (numbers : List (Text × Numbers)) (wide flags : List Text) (rows : List Row)
    → HoldsValues (filled_from i (rules_of numbers wide flags)) rows → HoldOptions numbers wide rows
holds_options i numbers wide flags rows h =
    let grouped = append_assoc (map number_rule numbers) (map wide_rule wide) (map flag_rule flags) in
    let first = numbers_held i numbers (map wide_rule wide ++ map flag_rule flags) rows (subst (λ (rules : List Rule). HoldsValues (filled_from i rules) rows) grouped h) in
    record { numbers_held = first.0; wide_held = wide_held i wide (map flag_rule flags) rows first.1 }

-- ---- operands, of which each has its place

number_operands_held : (i : ℕ) (numbers : List (Text × Numbers)) (wide : List Text) (rows : List Row) → HoldsValues (filled_from i (operand_rules_of numbers wide)) rows
    → options.Each (λ o. HoldsNumberOf o rows) numbers × ((j : ℕ) × HoldsValues (filled_from j (map wide_operand wide)) rows)
number_operands_held i [] wide rows h = (tt, (i, h))
number_operands_held i (o ∷ numbers) wide rows h = let more = number_operands_held (index_after i (number_operand o)) numbers wide rows h.1 in ((h.0, more.0), more.1)

wide_operands_held : (i : ℕ) (wide : List Text) (rows : List Row) → HoldsValues (filled_from i (map wide_operand wide)) rows → options.Each (λ name. HoldsWide name rows) wide
wide_operands_held i [] rows h = tt
wide_operands_held i (name ∷ wide) rows h =
    ((λ t is. let got = h.0 t is in subst (λ (u : Text). IsUnsignedIn 0 18446744073709551615 u) (sym got.1) got.2), wide_operands_held (index_after i (wide_operand name)) wide rows h.1)

-- what the values of the tables' rules are, the operands hold
pub holds_operands : (i : ℕ) (numbers : List (Text × Numbers)) (wide : List Text) (rows : List Row) → HoldsValues (filled_from i (operand_rules_of numbers wide)) rows → HoldOptions numbers wide rows
holds_operands i numbers wide rows h =
    let first = number_operands_held i numbers wide rows h in
    record { numbers_held = first.0; wide_held = wide_operands_held first.1.0 wide rows first.1.1 }
