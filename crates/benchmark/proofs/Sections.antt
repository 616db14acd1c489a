-- The sections of all mutators: the lines of their text, and what these say.
use Rattle.std.proofs.Common.{◌≡◌, ℕ, ◌+◌, ◌*◌, ◌/◌, ◌%◌, ◌^◌, ◌<◌, ◌≤◌, true, zero, suc, List, [], ◌∷◌, ◌++◌, map, length, refl, sym, ap, ap₂, ◌∙◌, arith, lit≤}
use Rattle.std.specs.Prelude.{decimal}
use Rattle.std.specs.List.{flat_map, list_all}
use Rattle.std.proofs.lemmas.Bool.{and_from, and_parts, lt-ltb}
use Rattle.std.proofs.lemmas.Grind.{flat_map-append}
use Rattle.std.proofs.lemmas.List.{length-append, map-append}
use Rattle.std.proofs.lemmas.List.Folds.{list_all-append}
use Rattle.mutator_asm.specs.Line.{Line, Nothing, line_from, lines_of, unlabelled}
use Rattle.mutator_asm.specs.Listing.{line_text}
use Rattle.mutator_asm.specs.Program.{is_number}
use Rattle.mutator_asm.proofs.Listings.Split.{is_token, line_length, lines_split}
use Rattle.benchmark.specs.declared.keys.Keys.{Keys}
use Rattle.benchmark.specs.Text.{keys_by, keys_of, sections_text}
use Rattle.benchmark.proofs.ReadLines.{are_tokens, says, section_lines}
use Rattle.benchmark.proofs.Tokens.{section_is, section_tokens}

-- ---- numbers

number : (n : ℕ) → n ≤ 1024 → is_number n ≡ true
number n few = lt-ltb n (2 ^ 62) (omega (arith, few))

-- the numbers of a section are numbers of the language
record AreNumbers (count : ℕ) (keys : Keys) : Type 0 where
  all : is_number count ≡ true
  first : is_number keys.first ≡ true
  addend : is_number keys.addend ≡ true

numbers_by : (count u v : ℕ) → 2 ≤ count → count ≤ 512 → AreNumbers count (keys_by count u v)
numbers_by count u v some few = record {
  all = number count (omega (arith, few));
  first = number (u % count) (omega (arith, some, few));
  addend = number (2 * (v % (count / 2)) + 1) (omega (arith, some, few));
}

numbers_of : (count seed m : ℕ) → 2 ≤ count → count ≤ 512 → AreNumbers count (keys_of count seed m)
numbers_of count seed m some few = numbers_by count _ _ some few

-- ---- the lines

abbrev tokens_by : ℕ → Keys → List (List (List ℕ))
tokens_by count keys = section_tokens (decimal keys.first) (decimal count) (decimal keys.addend)

abbrev lines_by : ℕ → Keys → List Line
lines_by count keys = section_lines keys.first count keys.addend

-- those of the sections of the mutators below m, by their tokens and by what they say
tokens_below : ℕ → ℕ → ℕ → List (List (List ℕ))
tokens_below count seed zero = []
tokens_below count seed (suc m) = tokens_below count seed m ++ tokens_by count (keys_of count seed m)

unfoldable pub lines_below : ℕ → ℕ → ℕ → List Line
lines_below count seed zero = []
lines_below count seed (suc m) = lines_below count seed m ++ lines_by count (keys_of count seed m)

text_below : (count seed m : ℕ) → sections_text count seed m ≡ flat_map line_text (tokens_below count seed m)
unfolding sections_text tokens_below
text_below count seed zero = refl
text_below count seed (suc m) =
    let keys = keys_of count seed m in
    ap₂ (λ xs ys. xs ++ ys) (text_below count seed m) (section_is count keys) ∙ sym (flat_map-append line_text (tokens_below count seed m) (tokens_by count keys))

are_tokens_below : (count seed m : ℕ) → 2 ≤ count → count ≤ 512 → list_all (list_all is_token) (tokens_below count seed m) ≡ true
unfolding tokens_below
are_tokens_below count seed zero some few = refl
are_tokens_below count seed (suc m) some few =
    let keys = keys_of count seed m in
    let n = numbers_of count seed m some few in
    list_all-append (list_all is_token) (tokens_below count seed m) (tokens_by count keys)
    ∙ and_from _ _ (are_tokens_below count seed m some few) (are_tokens keys.first count keys.addend n.first n.all n.addend)

say_below : (count seed m : ℕ) → 2 ≤ count → count ≤ 512 → map line_from (tokens_below count seed m) ≡ lines_below count seed m
unfolding tokens_below lines_below
say_below count seed zero some few = refl
say_below count seed (suc m) some few =
    let keys = keys_of count seed m in
    let n = numbers_of count seed m some few in
    map-append line_from (tokens_below count seed m) (tokens_by count keys)
    ∙ ap₂ (λ xs ys. xs ++ ys) (say_below count seed m some few) (says keys.first count keys.addend n.first n.all n.addend)

-- the lines of the text of so many sections; a blank one is behind the last LF
pub lines_are : (count seed m : ℕ) → 2 ≤ count → count ≤ 512 → lines_of (sections_text count seed m) ≡ lines_below count seed m ++ unlabelled Nothing ∷ []
lines_are count seed m some few =
    let tokens = tokens_below count seed m in
    ap lines_of (text_below count seed m) ∙ lines_split tokens (are_tokens_below count seed m some few)
    ∙ ap (λ (ls : List Line). ls ++ unlabelled Nothing ∷ []) (say_below count seed m some few)

-- ---- how long the text is

-- the bytes that these lines may have
abbrev longest : List (List (List ℕ)) → ℕ
longest [] = 0
longest (tokens ∷ more) = 25 * length tokens + 1 + longest more

lines_length : (ls : List (List (List ℕ))) → list_all (list_all is_token) ls ≡ true → length (flat_map line_text ls) ≤ longest ls
lines_length [] h = omega arith
lines_length (tokens ∷ more) h =
    let parts = and_parts (list_all is_token tokens) (list_all (list_all is_token) more) h in
    omega (arith, length-append (line_text tokens) (flat_map line_text more), line_length tokens parts.0, lines_length more parts.1)

longest_below_4 : (count seed : ℕ) → longest (tokens_below count seed 4) ≤ 32768
unfolding tokens_below
longest_below_4 count seed = lit≤ tt

-- four sections are short enough to be assembled
pub text_short : (count seed : ℕ) → 2 ≤ count → count ≤ 512 → length (sections_text count seed 4) < 2 ^ 31
text_short count seed some few =
    omega (arith, ap length (text_below count seed 4), lines_length (tokens_below count seed 4) (are_tokens_below count seed 4 some few), longest_below_4 count seed)
