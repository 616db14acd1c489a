-- The rows of a map to which lines of a word are added.
use Rattle.std.proofs.Common.{◌≡◌, ℕ, Bool, cond, List, [], ◌∷◌, ◌++◌, Option, Some, None, Vec, Ordering, Less, Equal, Greater, refl, sym, ap, ◌∙◌, is_eq}
use Rattle.std.specs.BTreeMap.{insert_entry}
use Rattle.std.specs.Cmp.Lexicographic.{slice_cmp}
use Rattle.std.specs.List.{AllByRecursion}
use Rattle.std.specs.List.Sorted.{IsStrictlySortedBy}
use Rattle.std.specs.Map.{keys_of, lookup, set_value}
use Rattle.std.specs.Ordering.{match_ordering, nat_cmp}
use Rattle.std.proofs.lemmas.Cmp.{nat_list_cmp_total}
use Rattle.concordance_text.specs.Rows.{row, rows_of_entries, with_lines}

module _ {Y : Type 0} where
  abbrev pub key_cmp : Vec ℕ Y → Vec ℕ Y → Ordering
  key_cmp j k = slice_cmp nat_cmp j.items k.items

  -- the test by which a word is looked up
  abbrev pub is_word : List ℕ → Vec ℕ Y → Bool
  is_word word k = is_eq (slice_cmp nat_cmp word k.items)

  inserted_by : (word lines : Vec ℕ Y) (e : Vec ℕ Y × Vec ℕ Y) (es : List (Vec ℕ Y × Vec ℕ Y)) (o : Ordering) (rest : Option (Vec ℕ Y)) → (rest ≡ None → rows_of_entries (insert_entry key_cmp es word lines) ≡ with_lines word.items lines.items (rows_of_entries es))
      → cond (is_eq o) (Some e.1) rest ≡ None
      → rows_of_entries (match_ordering o ((word, lines) ∷ e ∷ es) ((e.0, lines) ∷ es) (e ∷ insert_entry key_cmp es word lines))
      ≡ match_ordering o (row word.items lines.items ∷ row e.0.items e.1.items ∷ rows_of_entries es) (row e.0.items (e.1.items ++ lines.items) ∷ rows_of_entries es) (row e.0.items e.1.items ∷ with_lines word.items lines.items (rows_of_entries es))
  inserted_by word lines e es Less rest later none = refl
  inserted_by word lines e es Equal rest later none = absurd (let h : Some e.1 ≡ None = none in cc)
  inserted_by word lines e es Greater rest later none = ap (λ rs. row e.0.items e.1.items ∷ rs) (later none)

  -- a word that isn't there
  pub inserted : (word lines : Vec ℕ Y) (es : List (Vec ℕ Y × Vec ℕ Y)) → lookup (is_word word.items) es ≡ None → rows_of_entries (insert_entry key_cmp es word lines) ≡ with_lines word.items lines.items (rows_of_entries es)
  inserted word lines [] none = refl
  inserted word lines (e ∷ es) none = inserted_by word lines e es (key_cmp word e.0) (lookup (is_word word.items) es) (inserted word lines es) none

  never_found : (word : List ℕ) (k : Vec ℕ Y) (es : List (Vec ℕ Y × Vec ℕ Y)) → slice_cmp nat_cmp word k.items ≡ Less → AllByRecursion (λ j. key_cmp k j ≡ Less) (keys_of es) → lookup (is_word word) es ≡ None
  never_found word k [] less below = refl
  never_found word k (e ∷ es) less below = rw (nat_list_cmp_total.trans word k.items e.0.items less below.0) (never_found word k es less below.1)

  appended_by : (word lines : List ℕ) (before after : Vec ℕ Y) (e : Vec ℕ Y × Vec ℕ Y) (es : List (Vec ℕ Y × Vec ℕ Y)) (o : Ordering) → slice_cmp nat_cmp word e.0.items ≡ o → AllByRecursion (λ j. key_cmp e.0 j ≡ Less) (keys_of es)
      → after.items ≡ before.items ++ lines
      → (lookup (is_word word) es ≡ Some before → rows_of_entries (set_value (is_word word) es after) ≡ with_lines word lines (rows_of_entries es))
      → cond (is_eq o) (Some e.1) (lookup (is_word word) es) ≡ Some before
      → rows_of_entries (cond (is_eq o) ((e.0, after) ∷ es) (e ∷ set_value (is_word word) es after))
      ≡ match_ordering o (row word lines ∷ row e.0.items e.1.items ∷ rows_of_entries es) (row e.0.items (e.1.items ++ lines) ∷ rows_of_entries es) (row e.0.items e.1.items ∷ with_lines word lines (rows_of_entries es))
  appended_by word lines before after e es Less is below added later found = absurd (let n = never_found word e.0 es is below in let h : None ≡ Some before = sym n ∙ found in cc)
  appended_by word lines before after e es Equal is below added later found =
      let same : e.1 ≡ before = cc in
      ap (λ ls. row e.0.items ls ∷ rows_of_entries es) (added ∙ ap (λ (v : Vec ℕ Y). v.items ++ lines) (sym same))
  appended_by word lines before after e es Greater is below added later found = ap (λ rs. row e.0.items e.1.items ∷ rs) (later found)

  -- a word that is there
  pub appended : (word lines : List ℕ) (before after : Vec ℕ Y) (es : List (Vec ℕ Y × Vec ℕ Y)) → IsStrictlySortedBy key_cmp (keys_of es) → after.items ≡ before.items ++ lines → lookup (is_word word) es ≡ Some before
      → rows_of_entries (set_value (is_word word) es after) ≡ with_lines word lines (rows_of_entries es)
  unfolding IsStrictlySortedBy
  appended word lines before after [] sorted added found = absurd (let h : None ≡ Some before = found in cc)
  appended word lines before after (e ∷ es) sorted added found = appended_by word lines before after e es (slice_cmp nat_cmp word e.0.items) refl sorted.0 added (appended word lines before after es sorted.1 added) found
