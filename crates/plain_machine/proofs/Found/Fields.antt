-- The fields of a record, followed one after another.
use Rattle.std.proofs.Common.{◌≡◌, ℕ, ◌+◌, ◌<◌, Bool, true, false, cond, List, [], ◌∷◌, ◌++◌, length, fold, get_or, take, ap, sym, ◌∙◌}
use Rattle.std.proofs.lemmas.List.Sums.{fold-append}
use Rattle.plain_state.specs.declared.kind.Kind.{Kind}
use Rattle.plain_state.specs.declared.value.Value.{Value}
use Rattle.plain_state.specs.Layout.{is_field, word_of_value}
use Rattle.plain_machine.specs.Search.{Search, followed}
use Rattle.plain_heap.proofs.Reaching.Closure.{fields_from, fields_more}

module _ (kind : Kind) (values : List Value) (first now : Search) (x : ℕ) (d : Value) (within : x < length values) (so_far : now ≡ fold followed first (fields_from kind 0 (take x values))) where
  abbrev v : Value
  v = get_or values x d

  by_kind : (field : Bool) → is_field kind (word_of_value kind x) ≡ field → fold followed now (cond field (v ∷ []) []) ≡ fold followed first (fields_from kind 0 (take (x + 1) values))
  by_kind field test =
      ap (λ (s : Search). fold followed s (cond field (v ∷ []) [])) so_far
      ∙ sym (fold-append followed first (fields_from kind 0 (take x values)) (cond field (v ∷ []) []))
      ∙ ap (λ (b : Bool). fold followed first (fields_from kind 0 (take x values) ++ cond b (v ∷ []) [])) (sym test)
      ∙ sym (ap (fold followed first) (fields_more kind values x d within))

  -- this one is a field
  pub field_followed : (next : Search) → is_field kind (word_of_value kind x) ≡ true → next ≡ followed now v → next ≡ fold followed first (fields_from kind 0 (take (x + 1) values))
  field_followed next test follows = follows ∙ by_kind true test

  -- or it is none
  pub field_passed : is_field kind (word_of_value kind x) ≡ false → now ≡ fold followed first (fields_from kind 0 (take (x + 1) values))
  field_passed test = by_kind false test
