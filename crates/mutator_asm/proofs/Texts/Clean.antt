-- Lines without an error, one after another.
use Rattle.std.proofs.Common.{◌≡◌, ℕ, ◌+◌, ◌<◌, List, ◌∷◌, ◌++◌, length, get_or, take, drop, Option, Some, None, refl, sym, ap, subst, ◌∙◌, inl, inr, ◌⊎◌, arith, add-one, drop-cons}
use Rattle.std.proofs.Math.Seq.{take-append_seam, get_or-append_seam, drop-append-add}
use Rattle.std.proofs.lemmas.Bool.{cases_lt}
use Rattle.std.proofs.lemmas.List.{take-append-drop, length-take-le}
use Rattle.mutator_asm.specs.declared.mistake.Mistake.{Mistake}
use Rattle.mutator_asm.specs.Mistake.{number_of_mistake}
use Rattle.mutator_asm.specs.Line.{Line}
use Rattle.mutator_asm.specs.Text.{error_of, IsCleanUpTo, IsFirstError}

-- the error of the line at a place
unfoldable pub error_at : List Line → ℕ → Line → Option Mistake
error_at lines i d = error_of (take i lines) (get_or lines i d) (drop (i + 1) lines)

-- a list, cut at one of its places
pub cut_at : {A : Type 0} (xs : List A) (i : ℕ) (d : A) → i < length xs → xs ≡ take i xs ++ get_or xs i d ∷ drop (i + 1) xs
cut_at xs i d lt = sym (take-append-drop i xs) ∙ ap (λ ys. take i xs ++ ys) (rw (add-one, drop-cons xs i d) refl)

drop_seam : {A : Type 0} (xs ys : List A) (y : A) → drop (length xs + 1) (xs ++ y ∷ ys) ≡ ys
drop_seam xs ys y = drop-append-add xs (y ∷ ys) 1

-- what a cut shows, by its place
pub error_is : (lines before : List Line) (line : Line) (after : List Line) (d : Line) → lines ≡ before ++ line ∷ after → error_of before line after ≡ error_at lines (length before) d
unfolding error_at
error_is lines before line after d cut =
    let front : take (length before) lines ≡ before = ap (take (length before)) cut ∙ take-append_seam before (line ∷ after) in
    let here : get_or lines (length before) d ≡ line = ap (λ xs. get_or xs (length before) d) cut ∙ get_or-append_seam before line after d in
    let back : drop (length before + 1) lines ≡ after = ap (drop (length before + 1)) cut ∙ drop_seam before after line in
    rw (front, here, back) refl

clean_cases : (lines : List Line) (i : ℕ) (d : Line) → error_at lines i d ≡ None → IsCleanUpTo i lines
    → (before : List Line) (line : Line) (after : List Line) → lines ≡ before ++ line ∷ after → (length before < i) ⊎ (length before ≡ i) → error_of before line after ≡ None
clean_cases lines i d none clean before line after cut (inl lt) = clean.no_error before line after cut lt
clean_cases lines i d none clean before line after cut (inr e) =
    error_is lines before line after d cut ∙ ap (λ (k : ℕ). error_at lines k d) e ∙ none

below_cases : (n i : ℕ) → n < i + 1 → (n < i) ⊎ (n ≡ i)
below_cases n i lt = elim (cases_lt n i) [ inl h ↦ inl h | inr h ↦ inr (omega arith) ]

-- no lines have no error
pub clean_none : (lines : List Line) → IsCleanUpTo 0 lines
clean_none lines = record { no_error = λ before line after cut lt. absurd (omega arith) }

-- one more line without an error
pub clean_more : (lines : List Line) (i : ℕ) (d : Line) → error_at lines i d ≡ None → IsCleanUpTo i lines → IsCleanUpTo (i + 1) lines
clean_more lines i d none clean = record { no_error = λ before line after cut lt. clean_cases lines i d none clean before line after cut (below_cases (length before) i lt) }

-- behind lines without an error, the first that has one
pub first_error : (lines : List Line) (i : ℕ) (d : Line) (mistake : Mistake) (number line : ℕ) → number ≡ number_of_mistake mistake → line ≡ i + 1
    → i < length lines → error_at lines i d ≡ Some mistake → IsCleanUpTo i lines → IsFirstError lines number line
unfolding error_at
first_error lines i d mistake number line number_is line_is lt some clean =
    let place : length (take i lines) ≡ i = length-take-le i lines (omega arith) in
    record {
      before = take i lines;
      here = get_or lines i d;
      after = drop (i + 1) lines;
      cut = cut_at lines i d lt;
      clean = subst (λ (n : ℕ). IsCleanUpTo n lines) (sym place) clean;
      error = rw (some, number_is) refl;
      place = omega arith;
    }

-- a line among those without an error has none
pub clean_at : (lines : List Line) (n i : ℕ) (d : Line) → IsCleanUpTo n lines → i < n → i < length lines → error_at lines i d ≡ None
unfolding error_at
clean_at lines n i d clean lt inside =
    let place : length (take i lines) ≡ i = length-take-le i lines (omega arith) in
    clean.no_error (take i lines) (get_or lines i d) (drop (i + 1) lines) (cut_at lines i d inside) (rw place lt)
