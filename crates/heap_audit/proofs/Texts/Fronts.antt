-- The first lines of a text, by a front of it.
use Rattle.std.proofs.Common.{◌≡◌, ℕ, zero, suc, ◌+◌, Bool, true, false, cond, eqb, List, [], ◌∷◌, ◌++◌, refl, arith}
use Rattle.dump_text.specs.Lines.{first_lines}

-- how many lines end in a text
abbrev pub ends : List ℕ → ℕ
ends [] = 0
ends (b ∷ bytes) = cond (eqb b 10) (suc (ends bytes)) (ends bytes)

pub ends_append : (xs ys : List ℕ) → ends (xs ++ ys) ≡ ends xs + ends ys
ends_append [] ys = omega arith
ends_append (b ∷ xs) ys =
    let deeper = ends_append xs ys in
    elim (eqb b 10) as (λ t. cond t (suc (ends (xs ++ ys))) (ends (xs ++ ys)) ≡ cond t (suc (ends xs)) (ends xs) + ends ys) [ true ↦ omega (arith, deeper) | false ↦ deeper ]

inside : (c n : ℕ) (xs ys : List ℕ) → eqb c 10 ≡ false → first_lines n xs ≡ first_lines n ys → first_lines n (c ∷ xs) ≡ first_lines n (c ∷ ys)
inside c zero xs ys e h = refl
inside c (suc n) xs ys e h = rw (e, h) refl

-- the lines that end in the front, whatever stands behind it
pub front_lines : (front a b : List ℕ) → first_lines (ends front) (front ++ a) ≡ first_lines (ends front) (front ++ b)
front_lines [] a b = refl
front_lines (c ∷ front) a b =
    let P : Bool → Type 0 = λ t. eqb c 10 ≡ t → first_lines (cond t (suc (ends front)) (ends front)) (c ∷ (front ++ a)) ≡ first_lines (cond t (suc (ends front)) (ends front)) (c ∷ (front ++ b)) in
    elim (eqb c 10) as P [
      | true ↦ λ e. rw (e, front_lines front a b) refl
      | false ↦ λ e. inside c (ends front) (front ++ a) (front ++ b) e (front_lines front a b)
    ] refl

-- and lines more
pub lines_more : (front a : List ℕ) (k : ℕ) → first_lines (suc (ends front + k)) (front ++ a) ≡ front ++ first_lines (suc k) a
lines_more [] a k = let none : 0 + k ≡ k = omega arith in rw none refl
lines_more (c ∷ front) a k =
    let deeper = lines_more front a k in
    let next : suc (ends front) + k ≡ suc (ends front + k) = omega arith in
    let P : Bool → Type 0 = λ t. eqb c 10 ≡ t → first_lines (suc (cond t (suc (ends front)) (ends front) + k)) (c ∷ (front ++ a)) ≡ c ∷ (front ++ first_lines (suc k) a) in
    elim (eqb c 10) as P [
      | true ↦ λ e. rw (e, next, deeper) refl
      | false ↦ λ e. rw (e, deeper) refl
    ] refl

-- and one line more
pub line_more : (front a : List ℕ) → first_lines (suc (ends front)) (front ++ a) ≡ front ++ first_lines 1 a
line_more front a = let none : ends front ≡ ends front + 0 = omega arith in rw none (lines_more front a 0)
