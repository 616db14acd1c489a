-- The first lines of a text.
use Rattle.std.proofs.Common.{◌≡◌, ℕ, zero, suc, Bool, true, false, cond, eqb, List, [], ◌∷◌, ◌++◌, refl, sym, ap, ◌∙◌, arith}
use Rattle.std.proofs.lemmas.Bool.Decides.{nat_tests}
use Rattle.std.proofs.lemmas.List.{append_assoc}
use Rattle.std.specs.List.{list_all}
use Rattle.dump_text.specs.Lines.{first_lines}
use Rattle.dump_text.specs.Pieces.{is_hex}
use Rattle.dump_text.specs.Text.{word_text}
use Rattle.dump_text.proofs.Laid.{row_text}
use Rattle.dump_text.proofs.Hex.{text_hex}
use Rattle.dump_text.proofs.Options.{both_true}

-- what begins with its first lines
pub front_and_rest : (n : ℕ) (bytes : List ℕ) → (rest : List ℕ) × (bytes ≡ first_lines n bytes ++ rest)
front_and_rest zero bytes = (bytes, refl)
front_and_rest (suc n) [] = ([], refl)
front_and_rest (suc n) (b ∷ bytes) =
    let here = front_and_rest n bytes in
    let there = front_and_rest (suc n) bytes in
    elim (eqb b 10) as (λ t. (rest : List ℕ) × (b ∷ bytes ≡ (b ∷ cond t (first_lines n bytes) (first_lines (suc n) bytes)) ++ rest)) [
      | true ↦ (here.0, ap (λ (xs : List ℕ). b ∷ xs) here.1)
      | false ↦ (there.0, ap (λ (xs : List ℕ). b ∷ xs) there.1)
    ]

-- no line ends in it
abbrev pub is_inside : ℕ → Bool
is_inside b = cond (eqb b 10) false true

not_end : (t : Bool) → cond t false true ≡ true → t ≡ false
not_end true e = absurd cc
not_end false e = refl

-- what stands inside of a line is a part of it
pub inside_line : (n : ℕ) (front rest : List ℕ) → list_all is_inside front ≡ true → first_lines (suc n) (front ++ rest) ≡ front ++ first_lines (suc n) rest
inside_line n [] rest h = refl
inside_line n (b ∷ front) rest h =
    let t = both_true (is_inside b) (list_all is_inside front) h in
    let other : eqb b 10 ≡ false = not_end (eqb b 10) t.0 in
    rw (other, inside_line n front rest t.1) refl

hex_inside : (b : ℕ) → is_hex b ≡ true → is_inside b ≡ true
hex_inside b h = grind (arith, nat_tests)

all_inside : (bytes : List ℕ) → list_all is_hex bytes ≡ true → list_all is_inside bytes ≡ true
all_inside [] h = refl
all_inside (b ∷ bytes) h =
    let t = both_true (is_hex b) (list_all is_hex bytes) h in
    rw (hex_inside b t.0, all_inside bytes t.1) refl

word_inside : (n w : ℕ) (rest : List ℕ) → first_lines (suc n) (word_text w ++ rest) ≡ word_text w ++ first_lines (suc n) rest
word_inside n w rest = inside_line n (word_text w) rest (all_inside (word_text w) (text_hex w))

-- words in a line are one line
pub words_end : (n : ℕ) (word : ℕ) (words rest : List ℕ) → first_lines (suc n) (row_text (word ∷ words) ++ rest) ≡ row_text (word ∷ words) ++ first_lines n rest
words_end n w [] rest =
    ap (first_lines (suc n)) (append_assoc (word_text w) (10 ∷ []) rest) ∙ word_inside n w (10 ∷ rest) ∙ sym (append_assoc (word_text w) (10 ∷ []) (first_lines n rest))
words_end n w (v ∷ words) rest =
    let deeper = words_end n v words rest in
    ap (first_lines (suc n)) (append_assoc (word_text w) (32 ∷ row_text (v ∷ words)) rest) ∙ word_inside n w (32 ∷ (row_text (v ∷ words) ++ rest))
    ∙ ap (λ (xs : List ℕ). word_text w ++ 32 ∷ xs) deeper ∙ sym (append_assoc (word_text w) (32 ∷ row_text (v ∷ words)) (first_lines n rest))
