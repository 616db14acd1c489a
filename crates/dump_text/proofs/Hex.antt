-- The 16 digits of a word, and the word that 16 digits write.
use Rattle.std.proofs.Common.{◌≡◌, ℕ, zero, suc, ◌+◌, ◌-◌, ◌*◌, ◌/◌, ◌%◌, ◌^◌, ◌<◌, ◌≤◌, true, false, not, cond, ltb, List, [], ◌∷◌, ◌++◌, length, get_or, take, drop, replicate, Some, refl, sym, ap, ◌∙◌, arith, None, ◌==◌}
use Rattle.std.proofs.lemmas.Bool.Decides.{nat_tests}
use Rattle.std.proofs.lemmas.Bool.{ltb-false, le-ltb}
use Rattle.std.proofs.lemmas.Fmt.{digits_is_IsNumeral}
use Rattle.std.proofs.lemmas.Int.Digits.{digits_value-lt}
use Rattle.std.proofs.lemmas.List.{length-append, length-replicate, length-take-le, take_at, drop_at, take-append-drop}
use Rattle.std.proofs.lemmas.List.Folds.{list_all-append}
use Rattle.std.proofs.lemmas.List.Sums.{AllPass-from_list_all}
use Rattle.std.proofs.Math.Nat.{pow-le-pow_right}
use Rattle.std.specs.Char.{digit_value, digit_char}
use Rattle.std.specs.Fmt.{digits, digits_onto, digit_glyph}
use Rattle.std.specs.List.{list_all}
use Rattle.std.specs.Str.Parse.{AllDigits, digits_value, digits_value_after}
use Rattle.dump_text.specs.Pieces.{is_hex, word_at}
use Rattle.dump_text.specs.Text.{word_text}
use Rattle.dump_text.proofs.Options.{some_unless, some_is, both_true, not_false}

-- ---- one digit

pub hex_below : (c : ℕ) → is_hex c ≡ true → digit_value c < 16
hex_below c h = grind (arith, nat_tests)

hex_char : (c : ℕ) → is_hex c ≡ true → digit_char (digit_value c) ≡ c
hex_char c h = grind (arith, nat_tests)

hex_glyph : (d : ℕ) → d < 16 → is_hex (digit_glyph false d) ≡ true
hex_glyph d lt = grind (arith, nat_tests)

all_digits : (cs : List ℕ) → list_all is_hex cs ≡ true → AllDigits 16 cs
all_digits [] h = tt
all_digits (c ∷ cs) h = let b = both_true (is_hex c) (list_all is_hex cs) h in (hex_below c b.0, all_digits cs b.1)

-- ---- digits, read

-- each digit is one of a word
pub digit_at : (ds : List ℕ) (i : ℕ) → list_all is_hex ds ≡ true → i < length ds → is_hex (get_or ds i 0) ≡ true
digit_at ds i h lt = AllPass-from_list_all is_hex ds h i 0 lt

-- one more digit has room
pub value_room : (ds : List ℕ) (i : ℕ) → list_all is_hex ds ≡ true → length ds ≡ 16 → i < 16 → digits_value 16 (take i ds) * 16 + 15 < 2 ^ 64
value_room ds i h sixteen lt =
    let split : list_all is_hex (take i ds ++ drop i ds) ≡ true = rw (take-append-drop i ds) h in
    let front = both_true (list_all is_hex (take i ds)) (list_all is_hex (drop i ds)) (sym (list_all-append is_hex (take i ds) (drop i ds)) ∙ split) in
    let small : digits_value 16 (take i ds) < 16 ^ length (take i ds) = digits_value-lt 16 (take i ds) (all_digits (take i ds) front.0) in
    let pow : 16 ^ length (take i ds) ≡ 16 ^ i = ap (λ (n : ℕ). 16 ^ n) (length-take-le i ds (omega (arith, sixteen))) in
    let most : 16 ^ i ≤ 16 ^ 15 = pow-le-pow_right {n = 16} (omega arith) {i = i} {j = 15} (omega arith) in
    omega (arith, small, pow, most)

-- the same digits write the same number, after the same
same_digits : (n m : ℕ) (xs ys : List ℕ) → length xs ≡ length ys → list_all is_hex xs ≡ true → list_all is_hex ys ≡ true → digits_value_after 16 n xs ≡ digits_value_after 16 m ys → (n ≡ m) × (xs ≡ ys)
same_digits n m [] [] len hx hy e = (e, refl)
same_digits n m [] (y ∷ ys) len hx hy e = absurd (omega (arith, len))
same_digits n m (x ∷ xs) [] len hx hy e = absurd (omega (arith, len))
same_digits n m (x ∷ xs) (y ∷ ys) len hx hy e =
    let bx = both_true (is_hex x) (list_all is_hex xs) hx in
    let by = both_true (is_hex y) (list_all is_hex ys) hy in
    let deeper = same_digits (n * 16 + digit_value x) (m * 16 + digit_value y) xs ys (omega (arith, len)) bx.1 by.1 e in
    let low : digit_value x ≡ digit_value y = omega (arith, deeper.0, hex_below x bx.0, hex_below y by.0) in
    let one : x ≡ y = sym (hex_char x bx.0) ∙ ap digit_char low ∙ hex_char y by.0 in
    (omega (arith, deeper.0, hex_below x bx.0, hex_below y by.0), rw (one, deeper.1) refl)

-- ---- digits, written

onto_hex : (k n : ℕ) (acc : List ℕ) → list_all is_hex acc ≡ true → list_all is_hex (digits_onto k 16 false n acc) ≡ true
onto_hex zero n acc h = h
onto_hex (suc k) n acc h =
    let one : list_all is_hex (digit_glyph false (n % 16) ∷ acc) ≡ true = rw (hex_glyph (n % 16) (omega arith), h) refl in
    elim (n / 16 == 0) as (λ b. list_all is_hex (cond b (digit_glyph false (n % 16) ∷ acc) (digits_onto k 16 false (n / 16) (digit_glyph false (n % 16) ∷ acc))) ≡ true) [
      | true ↦ one
      | false ↦ onto_hex k (n / 16) (digit_glyph false (n % 16) ∷ acc) one
    ]

onto_short : (k j n : ℕ) (acc : List ℕ) → n < 16 ^ suc j → length (digits_onto k 16 false n acc) ≤ suc j + length acc
onto_short zero j n acc lt = omega arith
onto_short (suc k) zero n acc lt =
    let small : n / 16 ≡ 0 = omega arith in
    rw small (omega arith)
onto_short (suc k) (suc j) n acc lt =
    let deeper = onto_short k j (n / 16) (digit_glyph false (n % 16) ∷ acc) (omega (arith, lt)) in
    elim (n / 16 == 0) as (λ b. length (cond b (digit_glyph false (n % 16) ∷ acc) (digits_onto k 16 false (n / 16) (digit_glyph false (n % 16) ∷ acc))) ≤ suc (suc j) + length acc) [
      | true ↦ omega arith
      | false ↦ omega (arith, deeper)
    ]

digits_hex : (n : ℕ) → list_all is_hex (digits 16 false n) ≡ true
unfolding digits
digits_hex n = onto_hex 64 n [] refl

digits_short : (n : ℕ) → n < 2 ^ 64 → length (digits 16 false n) ≤ 16
unfolding digits
digits_short n lt = omega (arith, onto_short 64 15 n [] (omega (arith, lt)))

zeros_hex : (k : ℕ) → list_all is_hex (replicate k 48) ≡ true
zeros_hex zero = refl
zeros_hex (suc k) = zeros_hex k

zeros_value : (k : ℕ) (ds : List ℕ) → digits_value_after 16 0 (replicate k 48 ++ ds) ≡ digits_value_after 16 0 ds
zeros_value zero ds = refl
zeros_value (suc k) ds = zeros_value k ds

-- ---- the text of a word

abbrev zero_digit : ℕ
zero_digit = 48

pub text_length : (w : ℕ) → w < 2 ^ 64 → length (word_text w) ≡ 16
text_length w lt = omega (arith, length-append (replicate (16 - length (digits 16 false w)) 48) (digits 16 false w), length-replicate (16 - length (digits 16 false w)) zero_digit, digits_short w lt)

pub text_hex : (w : ℕ) → list_all is_hex (word_text w) ≡ true
text_hex w = rw (list_all-append is_hex (replicate (16 - length (digits 16 false w)) 48) (digits 16 false w), zeros_hex (16 - length (digits 16 false w)), digits_hex w) refl

text_value : (w : ℕ) → w < 2 ^ 64 → digits_value 16 (word_text w) ≡ w
text_value w lt = zeros_value (16 - length (digits 16 false w)) (digits 16 false w) ∙ (digits_is_IsNumeral 16 false (omega arith) (omega arith) w (omega (arith, lt))).1

-- sixteen digits are the text of the word that they write
text_of_digits : (ds : List ℕ) → length ds ≡ 16 → list_all is_hex ds ≡ true → (word_text (digits_value 16 ds) ≡ ds) × (digits_value 16 ds < 2 ^ 64)
text_of_digits ds sixteen h =
    let small : digits_value 16 ds < 16 ^ length ds = digits_value-lt 16 ds (all_digits ds h) in
    let pow : 16 ^ length ds ≡ 16 ^ 16 = ap (λ (n : ℕ). 16 ^ n) sixteen in
    let lt : digits_value 16 ds < 2 ^ 64 = omega (arith, small, pow) in
    let w = digits_value 16 ds in
    ((same_digits 0 0 (word_text w) ds (text_length w lt ∙ sym sixteen) (text_hex w) h (text_value w lt)).1, lt)

-- ---- a word, read

-- what is read is a word by its text
pub word_takes : (bytes : List ℕ) (w : ℕ) (rest : List ℕ) → word_at bytes ≡ Some (w, rest) → (bytes ≡ word_text w ++ rest) × (w < 2 ^ 64)
unfolding word_at
word_takes bytes w rest e =
    let front = take 16 bytes in
    let a = some_unless {A = ℕ × List ℕ} (ltb (length bytes) 16) (cond (not (list_all is_hex front)) None (Some (digits_value 16 front, drop 16 bytes))) (w, rest) e in
    let b = some_unless {A = ℕ × List ℕ} (not (list_all is_hex front)) (Some (digits_value 16 front, drop 16 bytes)) (w, rest) a.1 in
    let pair = some_is {A = ℕ × List ℕ} (digits_value 16 front, drop 16 bytes) (w, rest) b.1 in
    let long : 16 ≤ length bytes = ltb-false _ _ a.0 in
    let t = text_of_digits front (length-take-le 16 bytes long) (not_false (list_all is_hex front) b.0) in
    let is : digits_value 16 front ≡ w = ap (λ (p : ℕ × List ℕ). p.0) pair in
    let behind : drop 16 bytes ≡ rest = ap (λ (p : ℕ × List ℕ). p.1) pair in
    (rw (← is, ← behind, t.0) (sym (take-append-drop 16 bytes)), rw (← is) t.1)

-- a word is read by its text
pub word_again : (w : ℕ) (rest : List ℕ) → w < 2 ^ 64 → word_at (word_text w ++ rest) ≡ Some (w, rest)
unfolding word_at
word_again w rest lt =
    let sixteen = text_length w lt in
    let long : ltb (length (word_text w ++ rest)) 16 ≡ false = le-ltb _ _ (omega (arith, length-append (word_text w) rest, sixteen)) in
    rw (long, take_at (word_text w) rest 16 sixteen, text_hex w, drop_at (word_text w) rest 16 sixteen, text_value w lt) refl
