-- The first line: it is read by its text, and its text is a line.
use Rattle.std.proofs.Common.{◌≡◌, ℕ, suc, ◌+◌, ◌^◌, ◌<◌, ◌≤◌, true, cond, decimal, List, [], ◌∷◌, ◌++◌, Some, None, refl, sym, ap, subst, ◌∙◌, arith}
use Rattle.std.proofs.lemmas.Bool.Decides.{nat_tests}
use Rattle.std.proofs.lemmas.List.{append_assoc}
use Rattle.std.proofs.lemmas.Fmt.{digits_decimal}
use Rattle.std.specs.List.{list_all}
use Rattle.std.specs.Char.{is_ascii_digit}
use Rattle.space_map.specs.declared.spaces.TheConstants.{MOST_MUTATORS, MOST_PAGES, MOST_SCANNERS}
use Rattle.dump_text.specs.Lines.{first_lines}
use Rattle.dump_text.specs.Pieces.{◌>>=◌, byte_at, keyword_at, number_at, head_at}
use Rattle.dump_text.specs.Text.{Counts, are_counts}
use Rattle.dump_text.proofs.Laid.{head_text}
use Rattle.dump_text.proofs.FirstLines.{is_inside, inside_line}
use Rattle.dump_text.proofs.Numerals.{number_takes, number_again}
use Rattle.dump_text.proofs.Options.{some_bind, some_if, both_true}
use Rattle.dump_text.proofs.Pieces.{IsPiece, byte_takes}
use Rattle.plain_state.proofs.Numerals.{numerals}

-- ---- the counts of a heap

pub record AreSmall (c : Counts) : Type 0 where
  pub pages : (0 < c.pages) × (c.pages ≤ MOST_PAGES)
  pub mutators : (0 < c.mutators) × (c.mutators ≤ MOST_MUTATORS)
  pub workers : (0 < c.workers) × (c.workers ≤ MOST_MUTATORS + MOST_SCANNERS)

small_counts : (c : Counts) → are_counts c ≡ true → AreSmall c
small_counts c h = record {
  pages = (grind (arith, nat_tests, h), grind (arith, nat_tests, h));
  mutators = (grind (arith, nat_tests, h), grind (arith, nat_tests, h));
  workers = (grind (arith, nat_tests, h), grind (arith, nat_tests, h));
}

-- ---- the first line is read by its text

keyword_takes : (bytes rest : List ℕ) → keyword_at bytes ≡ Some rest → bytes ≡ 100 ∷ 117 ∷ 109 ∷ 112 ∷ 32 ∷ rest
keyword_takes bytes rest e =
    let d = some_bind (byte_at 100 bytes) (λ d. byte_at 117 d >>= λ u. byte_at 109 u >>= λ m. byte_at 112 m >>= λ p. byte_at 32 p) rest e in
    let u = some_bind (byte_at 117 d.0) (λ u. byte_at 109 u >>= λ m. byte_at 112 m >>= λ p. byte_at 32 p) rest d.2 in
    let m = some_bind (byte_at 109 u.0) (λ m. byte_at 112 m >>= λ p. byte_at 32 p) rest u.2 in
    let p = some_bind (byte_at 112 m.0) (λ p. byte_at 32 p) rest m.2 in
    byte_takes 100 bytes d.0 d.1 ∙ ap (λ (t : List ℕ). 100 ∷ t) (byte_takes 117 d.0 u.0 u.1 ∙ ap (λ (t : List ℕ). 117 ∷ t) (byte_takes 109 u.0 m.0 m.1
    ∙ ap (λ (t : List ℕ). 109 ∷ t) (byte_takes 112 m.0 p.0 p.1 ∙ ap (λ (t : List ℕ). 112 ∷ t) (byte_takes 32 p.0 rest p.2))))

abbrev numbers_text : Counts → List ℕ → List ℕ
numbers_text c rest = decimal c.pages ++ 32 ∷ (decimal c.mutators ++ 32 ∷ (decimal c.workers ++ 10 ∷ rest))

regroup : (c : Counts) (rest : List ℕ) → head_text c ++ rest ≡ 100 ∷ 117 ∷ 109 ∷ 112 ∷ 32 ∷ numbers_text c rest
regroup c rest =
    let p = decimal c.pages in
    let m = decimal c.mutators in
    let w = decimal c.workers in
    ap (λ (t : List ℕ). 100 ∷ 117 ∷ 109 ∷ 112 ∷ 32 ∷ t) (append_assoc p (32 ∷ (m ++ 32 ∷ (w ++ 10 ∷ []))) rest
    ∙ ap (λ (t : List ℕ). p ++ 32 ∷ t) (append_assoc m (32 ∷ (w ++ 10 ∷ [])) rest ∙ ap (λ (t : List ℕ). m ++ 32 ∷ t) (append_assoc w (10 ∷ []) rest)))

head_takes : (bytes : List ℕ) (c : Counts) (rest : List ℕ) → head_at bytes ≡ Some (c, rest) → (bytes ≡ head_text c ++ rest) × (are_counts c ≡ true)
unfolding head_at
head_takes bytes c rest e =
    let k = some_bind (keyword_at bytes) (λ rest. number_at 32 rest >>= λ pages. number_at 32 pages.1 >>= λ mutators. number_at 10 mutators.1 >>= λ workers. cond (are_counts (record { pages = pages.0; mutators = mutators.0; workers = workers.0 })) (Some (record { pages = pages.0; mutators = mutators.0; workers = workers.0 }, workers.1)) None) (c, rest) e in
    let p = some_bind (number_at 32 k.0) (λ pages. number_at 32 pages.1 >>= λ mutators. number_at 10 mutators.1 >>= λ workers. cond (are_counts (record { pages = pages.0; mutators = mutators.0; workers = workers.0 })) (Some (record { pages = pages.0; mutators = mutators.0; workers = workers.0 }, workers.1)) None) (c, rest) k.2 in
    let m = some_bind (number_at 32 p.0.1) (λ mutators. number_at 10 mutators.1 >>= λ workers. cond (are_counts (record { pages = p.0.0; mutators = mutators.0; workers = workers.0 })) (Some (record { pages = p.0.0; mutators = mutators.0; workers = workers.0 }, workers.1)) None) (c, rest) p.2 in
    let w = some_bind (number_at 10 m.0.1) (λ workers. cond (are_counts (record { pages = p.0.0; mutators = m.0.0; workers = workers.0 })) (Some (record { pages = p.0.0; mutators = m.0.0; workers = workers.0 }, workers.1)) None) (c, rest) m.2 in
    let made : Counts = record { pages = p.0.0; mutators = m.0.0; workers = w.0.0 } in
    let t = some_if {A = Counts × List ℕ} (are_counts made) (made, w.0.1) (c, rest) w.2 in
    let whole : bytes ≡ head_text made ++ w.0.1 =
    keyword_takes bytes k.0 k.1 ∙ ap (λ (t : List ℕ). 100 ∷ 117 ∷ 109 ∷ 112 ∷ 32 ∷ t) (number_takes 32 k.0 p.0.0 p.0.1 p.1 ∙ ap (λ (t : List ℕ). decimal p.0.0 ++ 32 ∷ t) (number_takes 32 p.0.1 m.0.0 m.0.1 m.1
    ∙ ap (λ (t : List ℕ). decimal m.0.0 ++ 32 ∷ t) (number_takes 10 m.0.1 w.0.0 w.0.1 w.1))) ∙ sym (regroup made w.0.1) in
    let P : Counts × List ℕ → Type 0 = λ q. (bytes ≡ head_text q.0 ++ q.1) × (are_counts q.0 ≡ true) in
    subst P t.1 (whole, t.0)

head_again : (c : Counts) (rest : List ℕ) → are_counts c ≡ true → head_at (head_text c ++ rest) ≡ Some (c, rest)
unfolding head_at
head_again c rest h =
    let s = small_counts c h in
    ap head_at (regroup c rest)
    ∙ rw (
      number_again 32 c.pages (decimal c.mutators ++ 32 ∷ (decimal c.workers ++ 10 ∷ rest)) refl s.pages.0 (omega (arith, s.pages.1)),
      number_again 32 c.mutators (decimal c.workers ++ 10 ∷ rest) refl s.mutators.0 (omega (arith, s.mutators.1)),
      number_again 10 c.workers rest refl s.workers.0 (omega (arith, s.workers.1)),
      h,
    ) refl

pub head_piece : IsPiece head_at head_text (λ c. are_counts c ≡ true)
head_piece = record { takes = head_takes; again = head_again }

-- ---- the first line is a line

digit_inside : (b : ℕ) → is_ascii_digit b ≡ true → is_inside b ≡ true
digit_inside b h = grind (arith, nat_tests)

all_inside : (bytes : List ℕ) → list_all is_ascii_digit bytes ≡ true → list_all is_inside bytes ≡ true
all_inside [] h = refl
all_inside (b ∷ bytes) h =
    let t = both_true (is_ascii_digit b) (list_all is_ascii_digit bytes) h in
    rw (digit_inside b t.0, all_inside bytes t.1) refl

pub decimal_inside : (n : ℕ) → n < 2 ^ 64 → list_all is_inside (decimal n) ≡ true
decimal_inside n lt = all_inside (decimal n) (digits_decimal numerals n lt)

number_inside : (n k : ℕ) (rest : List ℕ) → k < 2 ^ 64 → first_lines (suc n) (decimal k ++ rest) ≡ decimal k ++ first_lines (suc n) rest
number_inside n k rest lt = inside_line n (decimal k) rest (decimal_inside k lt)

pub head_ends : (c : Counts) (rest : List ℕ) (n : ℕ) → are_counts c ≡ true → first_lines (suc n) (head_text c ++ rest) ≡ head_text c ++ first_lines n rest
head_ends c rest n h =
    let s = small_counts c h in
    let p = decimal c.pages in
    let m = decimal c.mutators in
    let w = decimal c.workers in
    let third : first_lines (suc n) (w ++ 10 ∷ rest) ≡ w ++ 10 ∷ first_lines n rest = number_inside n c.workers (10 ∷ rest) (omega (arith, s.workers.1)) in
    let second : first_lines (suc n) (m ++ 32 ∷ (w ++ 10 ∷ rest)) ≡ m ++ 32 ∷ (w ++ 10 ∷ first_lines n rest) = number_inside n c.mutators (32 ∷ (w ++ 10 ∷ rest)) (omega (arith, s.mutators.1)) ∙ ap (λ (t : List ℕ). m ++ 32 ∷ t) third in
    let first : first_lines (suc n) (numbers_text c rest) ≡ numbers_text c (first_lines n rest) = number_inside n c.pages (32 ∷ (m ++ 32 ∷ (w ++ 10 ∷ rest))) (omega (arith, s.pages.1)) ∙ ap (λ (t : List ℕ). p ++ 32 ∷ t) second in
    ap (first_lines (suc n)) (regroup c rest) ∙ ap (λ (t : List ℕ). 100 ∷ 117 ∷ 109 ∷ 112 ∷ 32 ∷ t) first ∙ sym (regroup c (first_lines n rest))
