-- What the readers of numbers and pointers answer, by the tag of the word.
use Rattle.std.proofs.Common.{◌≡◌, ◌≢◌, ℕ, ◌/◌, ◌^◌, ◌<◌, ◌≤◌, nat_lt, true, false, Some, None, IfSome, Result, Ok, Err, refl, arith, ap, sym, ◌∙◌}
use Rattle.std.specs.Result.{OkIff, result_ok}
use Rattle.std.proofs.lemmas.Bool.Decides.{nat_tests}
use Rattle.heap_words.specs.declared.tag.Tag.TheVariants.{Number, Pointer}
use Rattle.heap_words.specs.Word.{tag_of, number_word, pointer_word}
use Rattle.heap_words.specs.Decoded.{Decoded, NumberWord, PointerWord, decode, number_in, pointer_in}
use Rattle.heap_words.proofs.Tags.{tag_of-number_word, tag_of-pointer_word}
use Rattle.heap_words.proofs.Spelling.{number_word-decode, pointer_word-decode}

-- ---- numbers

pub number_in-number : (w : ℕ) → tag_of w ≡ Number → w < 2 ^ 64 → number_in (decode w) ≡ Some (w / 4)
unfolding decode
number_in-number w tag short = let test : nat_lt w (2 ^ 64) ≡ true = grind (arith, nat_tests) in rw (tag, test) refl

no_number : (w : ℕ) (d : Decoded) → decode w ≡ d → tag_of w ≢ Number → number_in d ≡ None
no_number w (NumberWord n) is other = absurd (other (ap tag_of (number_word-decode w n is) ∙ tag_of-number_word n))
no_number w _ is other = refl

pub number_in-none : (w : ℕ) → tag_of w ≢ Number → number_in (decode w) ≡ None
number_in-none w other = no_number w (decode w) refl other

-- ---- pointers

pub pointer_in-pointer : (w : ℕ) → tag_of w ≡ Pointer → w < 2 ^ 34 → pointer_in (decode w) ≡ Some (w / 4)
unfolding decode
pointer_in-pointer w tag short = let test : nat_lt w (2 ^ 34) ≡ true = grind (arith, nat_tests) in rw (tag, test) refl

pub pointer_in-long : (w : ℕ) → tag_of w ≡ Pointer → 2 ^ 34 ≤ w → pointer_in (decode w) ≡ None
unfolding decode
pointer_in-long w tag long = let test : nat_lt w (2 ^ 34) ≡ false = grind (arith, nat_tests) in rw (tag, test) refl

no_pointer : (w : ℕ) (d : Decoded) → decode w ≡ d → tag_of w ≢ Pointer → pointer_in d ≡ None
no_pointer w (PointerWord address) is other =
    absurd (other (ap tag_of (pointer_word-decode w address is) ∙ tag_of-pointer_word address))
no_pointer w _ is other = refl

pub pointer_in-none : (w : ℕ) → tag_of w ≢ Pointer → pointer_in (decode w) ≡ None
pointer_in-none w other = no_pointer w (decode w) refl other

-- the address, read as a number of 32 bits
pub pointer_in-narrowed : {E : Type 0} (r : Result ℕ E) (w : ℕ) → tag_of w ≡ Pointer
    → OkIff r (w / 4 < 2 ^ 32) (w / 4) → result_ok r ≡ pointer_in (decode w)
pointer_in-narrowed (Ok address) w tag narrowed = ap Some narrowed.1 ∙ sym (pointer_in-pointer w tag (omega arith))
pointer_in-narrowed (Err e) w tag wide = sym (pointer_in-long w tag (grind arith))

-- ---- the spelling

spelled_number : (w : ℕ) (d : Decoded) → decode w ≡ d → IfSome (number_in d) (λ n. w ≡ number_word n)
spelled_number w (NumberWord n) is = number_word-decode w n is
spelled_number w _ is = tt

pub number_in-spelling : (w : ℕ) → IfSome (number_in (decode w)) (λ n. w ≡ number_word n)
number_in-spelling w = spelled_number w (decode w) refl

spelled_pointer : (w : ℕ) (d : Decoded) → decode w ≡ d → IfSome (pointer_in d) (λ address. w ≡ pointer_word address)
spelled_pointer w (PointerWord address) is = pointer_word-decode w address is
spelled_pointer w _ is = tt

pub pointer_in-spelling : (w : ℕ) → IfSome (pointer_in (decode w)) (λ address. w ≡ pointer_word address)
pointer_in-spelling w = spelled_pointer w (decode w) refl
