-- Each text is read in exactly one way.
use Rattle.std.proofs.Common.{◌≡◌, ℕ, ◌+◌, ◌<◌, ◌≤◌, ◌⊎◌, inl, inr, zero, suc, List, ◌∷◌, length, Option, Some, None, refl, sym, ap, ◌∙◌, add-one, arith}
use Rattle.std.specs.Prelude.{count_by, option_map}
use Rattle.std.proofs.lemmas.Bool.{cases_order}
use Rattle.std.proofs.lemmas.List.{length-append}
use Rattle.mutator_asm.specs.declared.mistake.Mistake.{Mistake}
use Rattle.mutator_asm.specs.Mistake.{number_of_mistake}
use Rattle.mutator_asm.specs.Line.{Line, Nothing, unlabelled, lines_of}
use Rattle.mutator_asm.specs.Text.{begins_section, error_of, code_of, schedule_of, IsCleanUpTo, IsFirstError, IsFaultIn}
use Rattle.mutator_asm.specs.Theorems.{Means, TextHasFault}
use Rattle.mutator_asm.proofs.Texts.Clean.{error_at, error_is, clean_none, clean_more, first_error}

-- ---- a first error

inside : {lines : List Line} {number line : ℕ} (f : IsFirstError lines number line) → length f.before < length lines
inside {lines} f = omega (arith, ap length f.cut, length-append f.before (f.here ∷ f.after))

-- no error stands among lines without one
not_clean : (lines : List Line) (number line n : ℕ) (f : IsFirstError lines number line) → IsCleanUpTo n lines → length f.before < n → ⊥
not_clean lines number line n f clean lt =
    let none = ap (option_map number_of_mistake) (clean.no_error f.before f.here f.after f.cut lt) in
    let some : None ≡ Some number = sym none ∙ f.error in
    cc

same_error : (lines : List Line) (number line other another : ℕ) (f : IsFirstError lines number line) (g : IsFirstError lines other another) → length f.before ≡ length g.before → (number ≡ other) × (line ≡ another)
same_error lines number line other another f g e =
    let first = error_is lines f.before f.here f.after (unlabelled Nothing) f.cut in
    let second = error_is lines g.before g.here g.after (unlabelled Nothing) g.cut in
    let errors : error_of f.before f.here f.after ≡ error_of g.before g.here g.after = first ∙ ap (λ (n : ℕ). error_at lines n (unlabelled Nothing)) e ∙ sym second in
    let numbers : Some number ≡ Some other = sym f.error ∙ ap (option_map number_of_mistake) errors ∙ g.error in
    (cc, f.place ∙ ap (λ (n : ℕ). n + 1) e ∙ sym g.place)

-- ---- at most one

first_only : (lines : List Line) (number line other another : ℕ) (f : IsFirstError lines number line) (g : IsFirstError lines other another) → (length f.before ≡ length g.before) ⊎ ((length f.before < length g.before) ⊎ (length g.before < length f.before)) → (number ≡ other) × (line ≡ another)
first_only lines number line other another f g (inl e) = same_error lines number line other another f g e
first_only lines number line other another f g (inr (inl lt)) = absurd (not_clean lines number line (length g.before) f g.clean lt)
first_only lines number line other another f g (inr (inr gt)) = absurd (not_clean lines other another (length f.before) g f.clean gt)

pub one_fault_in : (lines : List Line) (number line other another : ℕ) → IsFaultIn lines number line → IsFaultIn lines other another → (number ≡ other) × (line ≡ another)
one_fault_in lines number line other another (inl f) (inl g) = first_only lines number line other another f g (cases_order (length f.before) (length g.before))
one_fault_in lines number line other another (inl f) (inr g) = absurd (not_clean lines number line (length lines) f g.clean (inside f))
one_fault_in lines number line other another (inr f) (inl g) = absurd (not_clean lines other another (length lines) g f.clean (inside g))
one_fault_in lines number line other another (inr f) (inr g) = (f.error ∙ sym g.error, f.place ∙ sym g.place)

pub no_fault_in : (lines : List Line) (number line : ℕ) → IsCleanUpTo (length lines) lines → 1 ≤ count_by begins_section lines → IsFaultIn lines number line → ⊥
no_fault_in lines number line clean begun (inl f) = not_clean lines number line (length lines) f clean (inside f)
no_fault_in lines number line clean begun (inr f) = let none = f.none_begun in omega arith

-- ---- at least one

-- the first n lines have no error, or there is a first error
Searched : List Line → ℕ → Type 0
Searched lines n = IsCleanUpTo n lines ⊎ ((number : ℕ) × (line : ℕ) × IsFirstError lines number line)

search_more : (lines : List Line) (n : ℕ) (o : Option Mistake) → n < length lines → error_at lines n (unlabelled Nothing) ≡ o → IsCleanUpTo n lines → Searched lines (n + 1)
unfolding Searched
search_more lines n None lt e clean = inl (clean_more lines n (unlabelled Nothing) e clean)
search_more lines n (Some mistake) lt e clean = inr (number_of_mistake mistake, n + 1, first_error lines n (unlabelled Nothing) mistake (number_of_mistake mistake) (n + 1) refl refl lt e clean)

search_step : (lines : List Line) (n : ℕ) → n < length lines → Searched lines n → Searched lines (n + 1)
unfolding Searched
search_step lines n lt (inl clean) = search_more lines n _ lt refl clean
search_step lines n lt (inr found) = inr found

searched : (lines : List Line) (n : ℕ) → n ≤ length lines → Searched lines n
unfolding Searched
searched lines zero le = inl (clean_none lines)
searched lines (suc n) le = rw (← add-one) (search_step lines n (omega arith) (searched lines n (omega arith)))

reading : (bytes : List ℕ) (n : ℕ) → count_by begins_section (lines_of bytes) ≡ n → Searched (lines_of bytes) (length (lines_of bytes)) → Means bytes ⊎ TextHasFault bytes
unfolding Searched
reading bytes n e (inr (number, line, f)) = inr (record { number = number; line = line; fault = inl f })
reading bytes zero e (inl clean) = inr (record { number = 5; line = 1; fault = inr (record { clean = clean; none_begun = e; error = refl; place = refl }) })
reading bytes (suc n) e (inl clean) = inl (record { code = code_of (lines_of bytes); schedule = schedule_of (lines_of bytes); text = record { clean = clean; begun = omega arith; code_is = refl; schedule_is = refl } })

pub some_reading_of : (bytes : List ℕ) → Means bytes ⊎ TextHasFault bytes
some_reading_of bytes = reading bytes _ refl (searched (lines_of bytes) (length (lines_of bytes)) (omega arith))
