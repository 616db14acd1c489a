-- The words of lines: in which lines they stand, and how long they are.
use Rattle.std.proofs.Common.{◌≡◌, ◌⊎◌, inl, inr, ℕ, zero, suc, ◌+◌, ◌^◌, true, false, true≢false, ◌<◌, ◌≤◌, List, [], ◌∷◌, ◌++◌, length, length-append, refl, sym, ap, ◌∙◌, subst, arith}
use Rattle.std.specs.Char.{to_ascii_lowercase}
use Rattle.std.specs.List.{AllByRecursion, slice_split}
use Rattle.std.proofs.lemmas.Bool.{cases_lt, le-leb, lt-leb}
use Rattle.std.proofs.lemmas.List.{length-map}
use Rattle.std.proofs.lemmas.Str.Ascii.{lowercase_ascii}
use Rattle.concordance_text.specs.Rows.{IsElementOf}
use Rattle.concordance_text.specs.Words.{Mention, ends_line, is_some_run, lines_of, lower_cased, mention, mentions_from, separates, words_in}
use Rattle.concordance_text.proofs.Pieces.{At, piece}
use Rattle.concordance_text.proofs.WordRuns.{in_at, of_filter, of_lines, of_map}

-- ---- the number of a word's line

place_within : {X : Type 0} (xs : List X) (k : ℕ) (x : X) → At xs k x → k < length xs
place_within [] k x at = absurd at
place_within (y ∷ ys) zero x at = omega arith
place_within (y ∷ ys) (suc k) x at = let h = place_within ys k x at in omega arith

-- it is one of those of the lines
pub line_within : (number : ℕ) (lines : List (List ℕ)) (m : Mention) → IsElementOf m (mentions_from number lines) → (number ≤ m.line) × (m.line < number + length lines)
line_within number lines m h =
    let l = of_lines number lines m h in
    let w = of_map (λ word. mention (lower_cased word) (number + l.place)) m (words_in l.line) l.is in
    let is : m.line ≡ number + l.place = ap (λ (n : Mention). n.line) w.gives in
    let within : l.place < length lines = place_within lines l.place l.line l.at in
    (omega arith, omega arith)

-- ---- its letters

part_within : (xs front part back : List ℕ) → xs ≡ front ++ (part ++ back) → length part ≤ length xs
part_within xs front part back is = omega (arith, ap length is, length-append front (part ++ back), length-append part back)

-- a word of a line, as it stands there
record IsRunOf (text : List ℕ) (m : Mention) : Type 0 where
  run : List ℕ
  word_is : m.word ≡ lower_cased run
  letters : AllByRecursion (λ b. separates b ≡ false) run
  within : length run ≤ length text

run_of : (number : ℕ) (text : List ℕ) (m : Mention) → IsElementOf m (mentions_from number (lines_of text)) → IsRunOf text m
run_of number text m h =
    let l = of_lines number (lines_of text) m h in
    let w = of_map (λ word. mention (lower_cased word) (number + l.place)) m (words_in l.line) l.is in
    let s = of_filter is_some_run w.item (slice_split separates l.line) w.is in
    let p = in_at (slice_split separates l.line) w.item s.0 in
    let line = piece ends_line text l.line l.place l.at in
    let word = piece separates l.line w.item p.place p.at in
    record {
      run = w.item;
      word_is = ap (λ (n : Mention). n.word) w.gives;
      letters = word.inside;
      within = omega (arith, part_within text line.front l.line line.back line.is, part_within l.line word.front w.item word.back word.is);
    }

-- ---- what follows

large_separates : (b : ℕ) → 128 ≤ b → separates b ≡ true
large_separates b large =
    let past_upper : 90 < b = omega (arith, large) in
    let past_lower : 122 < b = omega (arith, large) in
    rw (le-leb 65 b (omega (arith, large)), le-leb 97 b (omega (arith, large)), lt-leb b 90 past_upper, lt-leb b 122 past_lower) refl

letter_below : (b : ℕ) → (b < 128) ⊎ (128 ≤ b) → separates b ≡ false → b < 128
letter_below b (inl small) letter = small
letter_below b (inr large) letter = absurd (true≢false (sym (large_separates b large) ∙ letter))

lower_letter : (b : ℕ) → separates b ≡ false → to_ascii_lowercase b < 2 ^ 8
lower_letter b letter = omega (arith, lowercase_ascii b (letter_below b (cases_lt b 128) letter))

lower_letters : (run : List ℕ) → AllByRecursion (λ b. separates b ≡ false) run → AllByRecursion (λ b. b < 2 ^ 8) (lower_cased run)
lower_letters [] letters = tt
lower_letters (b ∷ bs) letters = (lower_letter b letters.0, lower_letters bs letters.1)

-- its letters are bytes
pub letters_are_bytes : (number : ℕ) (text : List ℕ) (m : Mention) → IsElementOf m (mentions_from number (lines_of text)) → AllByRecursion (λ b. b < 2 ^ 8) m.word
letters_are_bytes number text m h = let r = run_of number text m h in subst (AllByRecursion (λ b. b < 2 ^ 8)) (sym r.word_is) (lower_letters r.run r.letters)

-- it is no longer than the text
pub word_within : (number : ℕ) (text : List ℕ) (m : Mention) → IsElementOf m (mentions_from number (lines_of text)) → length m.word ≤ length text
word_within number text m h = let r = run_of number text m h in omega (arith, ap length r.word_is, length-map r.run to_ascii_lowercase, r.within)
