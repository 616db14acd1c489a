-- Two lists that are split together.
use Rattle.std.proofs.Common.{◌≡◌, ℕ, zero, suc, ◌+◌, Bool, true, false, cond, List, [], ◌∷◌, ◌++◌, get_or, refl, sym, ap, ◌∙◌, arith}
use Rattle.std.specs.Prelude.{count_by}
use Rattle.std.specs.List.{slice_split, onto_first}
use Rattle.mutator_asm.proofs.Lists.Tests.{count_by-cons}

onto_here : {A : Type 0} (x : A) (parts : List (List A)) → get_or (onto_first x parts) 0 [] ≡ x ∷ get_or parts 0 []
onto_here x [] = refl
onto_here x (part ∷ parts) = refl

onto_later : {A : Type 0} (x : A) (parts : List (List A)) (k : ℕ) → get_or (onto_first x parts) (suc k) [] ≡ get_or parts (suc k) []
onto_later x [] k = refl
onto_later x (part ∷ parts) k = refl

seam_onto : {A : Type 0} (x : A) (whole front : List (List A)) (back : List A) (n : ℕ) → get_or whole n [] ≡ get_or front n [] ++ back → get_or (onto_first x whole) n [] ≡ get_or (onto_first x front) n [] ++ back
seam_onto x whole front back zero e = rw (onto_here x whole, onto_here x front, e) refl
seam_onto x whole front back (suc n) e = rw (onto_later x whole n, onto_later x front n) e

seam_step : {A : Type 0} (b : Bool) (x : A) (whole front : List (List A)) (back : List A) (m n : ℕ) → m ≡ cond b 1 0 + n → get_or whole n [] ≡ get_or front n [] ++ back
    → get_or (cond b ([] ∷ whole) (onto_first x whole)) m [] ≡ get_or (cond b ([] ∷ front) (onto_first x front)) m [] ++ back
seam_step true x whole front back m n e h = let next : m ≡ suc n = omega arith in rw next h
seam_step false x whole front back m n e h = let same : m ≡ n = omega arith in rw same (seam_onto x whole front back n h)

-- the last part of the first list goes on with the first part of the second
pub seam : {A : Type 0} (p : A → Bool) (xs ys : List A) → get_or (slice_split p (xs ++ ys)) (count_by p xs) [] ≡ get_or (slice_split p xs) (count_by p xs) [] ++ get_or (slice_split p ys) 0 []
seam p [] ys = refl
seam p (x ∷ xs) ys = seam_step (p x) x (slice_split p (xs ++ ys)) (slice_split p xs) (get_or (slice_split p ys) 0 []) (count_by p (x ∷ xs)) (count_by p xs) (count_by-cons p x xs) (seam p xs ys)

later_step : {A : Type 0} (b : Bool) (x : A) (whole : List (List A)) (part : List A) (m n j : ℕ) → m ≡ cond b 1 0 + n → get_or whole (n + suc j) [] ≡ part → get_or (cond b ([] ∷ whole) (onto_first x whole)) (m + suc j) [] ≡ part
later_step true x whole part m n j e h = let next : m + suc j ≡ suc (n + suc j) = omega arith in rw next h
later_step false x whole part m n j e h =
    let next : m + suc j ≡ suc (n + j) = omega arith in
    let same : n + suc j ≡ suc (n + j) = omega arith in
    rw (next, onto_later x whole (n + j), ← same) h

-- and the later parts of the second follow it
pub later : {A : Type 0} (p : A → Bool) (xs ys : List A) (j : ℕ) → get_or (slice_split p (xs ++ ys)) (count_by p xs + suc j) [] ≡ get_or (slice_split p ys) (suc j) []
later p [] ys j = ap (λ (n : ℕ). get_or (slice_split p ys) n []) (omega arith)
later p (x ∷ xs) ys j = later_step (p x) x (slice_split p (xs ++ ys)) (get_or (slice_split p ys) (suc j) []) (count_by p (x ∷ xs)) (count_by p xs) j (count_by-cons p x xs) (later p xs ys j)

first_step : {A : Type 0} (b : Bool) (x : A) (parts : List (List A)) (ys : List A) (n : ℕ) → cond b 1 0 + n ≡ 0 → (n ≡ 0 → get_or parts 0 [] ≡ ys) → get_or (cond b ([] ∷ parts) (onto_first x parts)) 0 [] ≡ x ∷ ys
first_step true x parts ys n e h = absurd (omega arith)
first_step false x parts ys n e h = onto_here x parts ∙ ap (λ zs. x ∷ zs) (h (omega arith))

-- a list of one part goes on with the first part of the second
pub first_on : {A : Type 0} (p : A → Bool) (xs ys : List A) → count_by p xs ≡ 0 → get_or (slice_split p (xs ++ ys)) 0 [] ≡ xs ++ get_or (slice_split p ys) 0 []
first_on p [] ys none = refl
first_on p (x ∷ xs) ys none = first_step (p x) x (slice_split p (xs ++ ys)) (xs ++ get_or (slice_split p ys) 0 []) (count_by p xs) (sym (count_by-cons p x xs) ∙ none) (first_on p xs ys)
