-- The parts of a word, cut out of it by shifts and masks.
use Rattle.std.proofs.Common.{◌≡◌, ℕ, ◌+◌, ◌*◌, ◌/◌, ◌%◌, ◌<◌, ◌≤◌, bit_and, Some, None, Result, Ok, Err, arith, ap, sym, ◌∙◌}
use Rattle.std.specs.Int.{bit_at}
use Rattle.std.specs.Result.{OkIff, result_ok}
use Rattle.std.proofs.lemmas.Nat.{and_mask}
use Rattle.heap_words.specs.declared.kind.Kind.{Kind}
use Rattle.heap_words.specs.declared.tag.Tag.TheVariants.{Header, Forward}
use Rattle.heap_words.specs.Word.{tag_of, tag_spelled, kind_code, header_word, forward_word, busy_word}
use Rattle.heap_words.specs.Decoded.{kind_spelled}
use Rattle.heap_words.proofs.Tags.{tag_bits, tag_bits-tag_of}
use Rattle.heap_words.proofs.KindCodes.{kind_code-kind_spelled}

-- ---- a part, read as a narrower number

pub narrowed : {E : Type 0} (r : Result ℕ E) (bound v x : ℕ) → OkIff r (v < bound) v → Some x ≡ result_ok r → (x ≡ v) × (v < bound)
narrowed (Ok y) bound v x fits is = (grind arith, fits.0)
narrowed (Err e) bound v x fits is = cc

pub too_wide : {E : Type 0} (r : Result ℕ E) (bound v : ℕ) → OkIff r (v < bound) v → None ≡ result_ok r → bound ≤ v
too_wide (Ok y) bound v fits is = cc
too_wide (Err e) bound v wide is = grind arith

-- ---- headers

pub header_word-parts : (w : ℕ) (kind : Kind) → tag_of w ≡ Header → kind ≡ kind_spelled (bit_and (w / 4) 3)
    → w ≡ header_word kind (bit_and (w / 16) 4095) (bit_and (w / 65536) 1099511627775) (w / 72057594037927936)
unfolding header_word
header_word-parts w kind tag spelled =
    let tag_is : 2 ≡ w % 4 = sym (ap tag_bits tag) ∙ tag_bits-tag_of w in
    let code : kind_code kind ≡ bit_and (w / 4) 3 =
    rw spelled (kind_code-kind_spelled (bit_and (w / 4) 3) (omega (arith, and_mask (w / 4) 2))) in
    omega (arith, and_mask (w / 4) 2, and_mask (w / 16) 12, and_mask (w / 65536) 40)

-- ---- forwards and busy words: the lowest four bits

pub form_bits : (w form : ℕ) → form < 2 → bit_and w 15 ≡ 3 + 4 * form
    → (tag_of w ≡ Forward) × (bit_at w 2 ≡ form) × (bit_at w 3 ≡ 0)
unfolding tag_of
form_bits w form small is =
    let bits : w % 16 ≡ 3 + 4 * form = omega (arith, and_mask w 4) in
    let tag : w % 4 ≡ 3 = omega arith in
    (ap tag_spelled tag, omega arith, omega arith)

pub form_from_bits : (w form : ℕ) → tag_of w ≡ Forward → bit_at w 2 ≡ form → bit_at w 3 ≡ 0 → bit_and w 15 ≡ 3 + 4 * form
form_from_bits w form tag second third =
    let tag_is : 3 ≡ w % 4 = sym (ap tag_bits tag) ∙ tag_bits-tag_of w in
    omega (arith, and_mask w 4)

pub forward_word-parts : (w address : ℕ) → bit_and w 15 ≡ 3 → address ≡ w / 65536 → w ≡ forward_word (bit_and (w / 16) 4095) address
unfolding forward_word
forward_word-parts w address form is = omega (arith, and_mask w 4, and_mask (w / 16) 12)

pub busy_word-parts : (w worker : ℕ) → bit_and w 15 ≡ 7 → worker ≡ w / 65536 → w ≡ busy_word (bit_and (w / 16) 4095) worker
unfolding busy_word
busy_word-parts w worker form is = omega (arith, and_mask w 4, and_mask (w / 16) 12)

pub busy_word-form : (w len worker : ℕ) → w ≡ busy_word len worker → bit_and w 15 ≡ 7
unfolding busy_word
busy_word-form w len worker is = omega (arith, and_mask w 4)

pub busy_word-rest : (w len worker : ℕ) → len ≤ 4095 → w ≡ busy_word len worker → w / 65536 ≡ worker
unfolding busy_word
busy_word-rest w len worker short is = omega arith
