-- Forwards: their lowest four bits, and the address that the code reads in one.
use Rattle.std.proofs.Common.{◌≡◌, ◌≢◌, ℕ, ◌/◌, ◌%◌, ◌^◌, ◌<◌, ◌≤◌, nat_lt, bit_and, true, false, Some, None, Result, Ok, Err, refl, arith, sym, ap, ◌∙◌}
use Rattle.std.specs.Result.{OkIff, result_ok}
use Rattle.std.proofs.lemmas.Bool.Decides.{nat_tests}
use Rattle.std.proofs.lemmas.Nat.{and_mask}
use Rattle.heap_words.specs.declared.tag.Tag.TheVariants.{Forward}
use Rattle.heap_words.specs.Decoded.{Decoded, ForwardWord, copy_in, decode}
use Rattle.heap_words.specs.Word.{tag_spelled, tag_of, forward_word}
use Rattle.heap_words.proofs.Ranges.{forward_bounds}
use Rattle.heap_words.proofs.Spelling.{forward_word-decode}

-- ---- the parts of a forward

pub forward_word-form : (w len address : ℕ) → w ≡ forward_word len address → bit_and w 15 ≡ 3
unfolding forward_word
forward_word-form w len address is = omega (arith, and_mask w 4)

pub forward_word-rest : (w len address : ℕ) → len ≤ 4095 → w ≡ forward_word len address → w / 65536 ≡ address
unfolding forward_word
forward_word-rest w len address short is = omega arith

-- ---- the address of the copy, by the bits

-- a word whose lowest four bits are a forward's, by its bits 2 and 3 and its tag
forward_tag : (w : ℕ) → bit_and w 15 ≡ 3 → tag_of w ≡ Forward
unfolding tag_of
forward_tag w form = let bits : w % 4 ≡ 3 = omega (arith, and_mask w 4) in ap tag_spelled bits

pub copy_in-short : (w : ℕ) → bit_and w 15 ≡ 3 → w < 2 ^ 48 → copy_in (decode w) ≡ Some (w / 2 ^ 16)
unfolding decode
copy_in-short w form short =
    let bits : w / 4 % 4 ≡ 0 = omega (arith, and_mask w 4) in
    let test : nat_lt w (2 ^ 48) ≡ true = grind (arith, nat_tests) in
    rw (forward_tag w form, bits, test) refl

copy_in-long : (w : ℕ) → bit_and w 15 ≡ 3 → 2 ^ 48 ≤ w → copy_in (decode w) ≡ None
unfolding decode
copy_in-long w form long =
    let bits : w / 4 % 4 ≡ 0 = omega (arith, and_mask w 4) in
    let test : nat_lt w (2 ^ 48) ≡ false = grind (arith, nat_tests) in
    rw (forward_tag w form, bits, test) refl

-- the address, read as a number of 32 bits
pub copy_in-narrowed : {E : Type 0} (r : Result ℕ E) (w : ℕ) → bit_and w 15 ≡ 3 → OkIff r (w / 65536 < 2 ^ 32) (w / 65536)
    → result_ok r ≡ copy_in (decode w)
copy_in-narrowed (Ok address) w form narrowed = ap Some narrowed.1 ∙ sym (copy_in-short w form (omega arith))
copy_in-narrowed (Err e) w form wide = sym (copy_in-long w form (grind arith))

none : (w : ℕ) (d : Decoded) → decode w ≡ d → bit_and w 15 ≢ 3 → copy_in d ≡ None
none w (ForwardWord len address) is other = absurd (other (forward_word-form w len address (forward_word-decode w len address is)))
none w d is other = refl

pub copy_in-none : (w : ℕ) → bit_and w 15 ≢ 3 → copy_in (decode w) ≡ None
copy_in-none w other = none w (decode w) refl other

-- ---- the bits, by the address of the copy

by_word : (w address : ℕ) (d : Decoded) → decode w ≡ d → Some address ≡ copy_in d → (bit_and w 15 ≡ 3) × (address ≡ w / 65536) × (address < 2 ^ 32)
by_word w address (ForwardWord len a) says is =
    let same : a ≡ address = cc in
    let bounds = forward_bounds w len a says in
    let spelled = forward_word-decode w len a says in
    let rest = forward_word-rest w len a bounds.0 spelled in
    (forward_word-form w len a spelled, sym (rest ∙ same), omega (arith, bounds.1, same))
by_word w address d says is = absurd (cc)

pub copy_in-some : (w address : ℕ) → Some address ≡ copy_in (decode w) → (bit_and w 15 ≡ 3) × (address ≡ w / 65536) × (address < 2 ^ 32)
copy_in-some w address is = by_word w address (decode w) refl is
