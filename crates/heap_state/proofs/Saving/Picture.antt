-- The heap as it was when the checkpoint was begun shows what the plain heap has kept.
use Rattle.std.proofs.Common.{◌≡◌, ◌≢◌, ℕ, ◌+◌, ◌<◌, zero, suc, Some, refl, sym, ◌∙◌, arith, ⊎_elim}
use Rattle.std.specs.Prelude.{slice_get}
use Rattle.std.proofs.lemmas.Bool.{cases_eq, ne_eqb}
use Rattle.plain_state.specs.declared.kind.Kind.TheVariants.{Fields}
use Rattle.plain_state.specs.declared.value.Value.TheVariants.{Number}
use Rattle.heap_words.specs.Decoded.{PointerWord, NumberWord, HeaderWord, decode}
use Rattle.heap_words.proofs.Decoding.{decode-number_word, decode-pointer_word, decode-header_word}
use Rattle.space_map.specs.Spaces.{page_of}
use Rattle.heap_state.specs.Examples.Saving.{frozen_heap, kept_board, kept_records}
use Rattle.heap_state.specs.Invariant.Ghost.{header_kind}
use Rattle.heap_state.specs.Saving.Kept.{ShowsKept, KeepsPicture}
use Rattle.heap_state.proofs.Flipped.FlippedInvariant.{zero_word}
use Rattle.heap_state.proofs.Worked.WorkedStands.{pointer_value, number_value}

-- ---- the words

first_word : decode (frozen_heap.heap 512) ≡ PointerWord 192
first_word = decode-pointer_word 192 (omega arith)

field_word : decode (frozen_heap.heap 193) ≡ NumberWord 5
field_word = decode-number_word 5 (omega arith)

header : decode (frozen_heap.heap 192) ≡ HeaderWord (header_kind Fields) 1 1 0
header = decode-header_word (header_kind Fields) 1 1 0 (omega arith) (omega arith)

-- each board word but the first is 0
blank_word : (x : ℕ) → x ≢ 0 → decode (frozen_heap.heap (512 + x)) ≡ NumberWord 0
blank_word x n = rw (ne_eqb (512 + x) 192 (λ e. omega arith), ne_eqb (512 + x) 193 (λ e. omega arith), ne_eqb (512 + x) 512 (λ e. n (omega arith))) zero_word

kept_zero : (x : ℕ) → x < 16 → x ≢ 0 → slice_get kept_board x ≡ Some (Number 0)
kept_zero zero l n = absurd (n refl)
kept_zero (suc zero) l n = refl
kept_zero (suc (suc zero)) l n = refl
kept_zero (suc (suc (suc zero))) l n = refl
kept_zero (suc (suc (suc (suc zero)))) l n = refl
kept_zero (suc (suc (suc (suc (suc zero))))) l n = refl
kept_zero (suc (suc (suc (suc (suc (suc zero)))))) l n = refl
kept_zero (suc (suc (suc (suc (suc (suc (suc zero))))))) l n = refl
kept_zero (suc (suc (suc (suc (suc (suc (suc (suc zero)))))))) l n = refl
kept_zero (suc (suc (suc (suc (suc (suc (suc (suc (suc zero))))))))) l n = refl
kept_zero (suc (suc (suc (suc (suc (suc (suc (suc (suc (suc zero)))))))))) l n = refl
kept_zero (suc (suc (suc (suc (suc (suc (suc (suc (suc (suc (suc zero))))))))))) l n = refl
kept_zero (suc (suc (suc (suc (suc (suc (suc (suc (suc (suc (suc (suc zero)))))))))))) l n = refl
kept_zero (suc (suc (suc (suc (suc (suc (suc (suc (suc (suc (suc (suc (suc zero))))))))))))) l n = refl
kept_zero (suc (suc (suc (suc (suc (suc (suc (suc (suc (suc (suc (suc (suc (suc zero)))))))))))))) l n = refl
kept_zero (suc (suc (suc (suc (suc (suc (suc (suc (suc (suc (suc (suc (suc (suc (suc zero))))))))))))))) l n = refl
kept_zero (suc (suc (suc (suc (suc (suc (suc (suc (suc (suc (suc (suc (suc (suc (suc (suc x)))))))))))))))) l n = absurd (omega arith)

-- ---- the record

-- one record stands
only : (a : ℕ) → 0 < frozen_heap.size a → a ≡ 192
only a st = ⊎_elim (λ (e : a ≡ 192). e) (λ (n : a ≢ 192). absurd (let z : 0 < 0 = rw (ne_eqb a 192 n) at st in omega arith)) (cases_eq a 192)

on_page_3 : (i : ℕ) → i < 2 → page_of (192 + i) ≡ 3
on_page_3 i l = omega arith

shown : ShowsKept frozen_heap kept_records 192
shown = record {
  shown = _;
  is = refl;
  shows = record {
    kind = refl;
    size = refl;
    fields = λ x l f. let q : x ≡ 0 = omega arith in rw q (number_value frozen_heap.identity (frozen_heap.heap 193) 5 field_word);
    numbers = λ x l f. absurd (cc);
    count = tt;
  };
  header = header;
  held = λ i l. rw (on_page_3 i l) refl;
}

pub picture : KeepsPicture 4 frozen_heap kept_board kept_records
picture = record {
  board = λ x l. ⊎_elim
      (λ (e : x ≡ 0). rw e (pointer_value frozen_heap.identity (frozen_heap.heap 512) 192 first_word))
      (λ (n : x ≢ 0). number_value frozen_heap.identity (frozen_heap.heap (512 + x)) 0 (blank_word x n) ∙ sym (kept_zero x l n))
      (cases_eq x 0);
  sixteen = refl;
  held = refl;
  records = λ a st. rw (only a st) shown;
  three = λ a st weak. absurd (cc);
  targets = λ a r st weak is. absurd (cc);
  board_lands = λ x b l e. ⊎_elim
      (λ (o : x ≡ 0). let q : PointerWord 192 ≡ PointerWord b = sym first_word ∙ (rw o at e) in let s : 192 ≡ b = cc in rw (← s) (omega arith))
      (λ (n : x ≢ 0). absurd (let q = sym (blank_word x n) ∙ e in cc))
      (cases_eq x 0);
  field_lands = λ a i b f l m e. absurd (
      let o = only a (omega (arith, l)) in
      let q : 0 < i × i < 2 = (f, rw o at l) in
      let s : a + i ≡ 193 = omega (arith, o, q) in
      let r : decode (frozen_heap.heap 193) ≡ PointerWord b = rw s at e in
      let d = sym field_word ∙ r in cc);
  target_lands = λ a b st weak e. absurd (cc);
  once = λ a b sa sb e. only a sa ∙ sym (only b sb);
}
