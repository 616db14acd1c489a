-- The first word of a line.
use Rattle.std.proofs.Common.{◌≡◌, ℕ, ◌<◌, Bool, true, false, cond, not, List, [], ◌∷◌, ◌++◌, Some, None, length, take, drop, get_or, unwrap_or, refl, sym, ap, ◌∙◌, subst, arith}
use borrow.Author.Tests.{lt-ltb}
use Rattle.std.specs.Prelude.{filter}
use Rattle.std.specs.List.{AllByRecursion, position_from, slice_split}
use Rattle.std.proofs.lemmas.List.{append-nil, drop_at, length-append}
use Rattle.std.proofs.lemmas.List.Elements.{All-from_recursion}
use Rattle.std.proofs.lemmas.List.Splits.{slice_split-cons_yes, slice_split_at, slice_split_none}
use Rattle.concordance_text.specs.Runs.{BeginsWith}
use Rattle.concordance_text.specs.Words.{is_some_run, separates, words_in}
use Rattle.concordance_text.proofs.LongWords.{found, none}
use Rattle.concordance_text.proofs.Pieces.{CutsAtFirst, cuts_at_first}

not_true : (b : Bool) → not b ≡ true → b ≡ false
not_true true e = absurd (cc)
not_true false e = refl

not_false : (b : Bool) → not b ≡ false → b ≡ true
not_false true e = refl
not_false false e = absurd (cc)

-- what separates words is passed over
words_behind : (front rest : List ℕ) → AllByRecursion (λ b. not (separates b) ≡ false) front → words_in (front ++ rest) ≡ words_in rest
words_behind [] rest all = refl
words_behind (x ∷ xs) rest all = ap (filter is_some_run) (slice_split-cons_yes separates x (xs ++ rest) (not_false (separates x) all.0)) ∙ words_behind xs rest all.1

first_kept : (run : List ℕ) (runs : List (List ℕ)) → 0 < length run → filter is_some_run (run ∷ runs) ≡ run ∷ filter is_some_run runs
first_kept run runs some = ap (λ b. cond b (run ∷ filter is_some_run runs) (filter is_some_run runs)) (lt-ltb 0 (length run) some)

-- ---- a line that is cut behind its first run

-- it begins with a letter, so the run is not empty
some_letters : (x : ℕ) (xs run rest : List ℕ) → separates x ≡ false → CutsAtFirst separates (x ∷ xs) run rest → 0 < length run
some_letters x xs [] [] letter cut = absurd (let long = ap length cut.is in omega (arith, long))
some_letters x xs [] (y ∷ ys) letter cut = absurd (let e = ap (λ l. get_or l 0 0) cut.is in let f = ap separates e in let g = cut.begins in cc)
some_letters x xs (z ∷ zs) rest letter cut = omega arith

words_of : (run rest : List ℕ) → AllByRecursion (λ b. separates b ≡ false) run → BeginsWith separates rest → 0 < length run → words_in (run ++ rest) ≡ run ∷ words_in rest
words_of run [] letters begins some = ap words_in (append-nil run) ∙ ap (filter is_some_run) (slice_split_none separates run (All-from_recursion _ run letters)) ∙ first_kept run [] some
words_of run (y ∷ ys) letters begins some =
    ap (filter is_some_run) (slice_split_at separates run y ys (All-from_recursion _ run letters) begins) ∙ first_kept run (slice_split separates ys) some
    ∙ ap (λ ws. run ∷ filter is_some_run ws) (sym (slice_split-cons_yes separates y ys begins))

-- ---- the first word

-- a word, and what is behind it
pub record IsFirstOf (line word rest : List ℕ) : Type 0 where
  pub words : words_in line ≡ word ∷ words_in rest
  pub shorter : length rest < length line

pub first_is : (line word w rest : List ℕ) (begin end : ℕ) → position_from (λ b. not (separates b)) 0 line ≡ Some begin → word ≡ drop begin line → end ≡ unwrap_or (position_from separates 0 word) (length word) → w ≡ take end word → rest ≡ drop end word
    → IsFirstOf line w rest
first_is line word w rest begin end begins is_word ends is_w is_rest =
    let f = found (λ b. not (separates b)) line 0 begin begins in
    let back : word ≡ f.item ∷ f.after = is_word ∙ ap (drop begin) f.is ∙ drop_at f.before (f.item ∷ f.after) begin (let place = f.place_is in omega (arith, place)) in
    let cut = cuts_at_first separates word w rest end ends is_w is_rest in
    let some = some_letters f.item f.after w rest (not_true (separates f.item) f.hits) (subst (λ ws. CutsAtFirst separates ws w rest) back cut) in
    record {
      words = ap words_in f.is ∙ words_behind f.before (f.item ∷ f.after) f.misses ∙ ap words_in (sym back ∙ cut.is) ∙ words_of w rest cut.none cut.begins some;
      shorter = (let e = ap length f.is in let g = length-append f.before (f.item ∷ f.after) in let h = ap length (sym back ∙ cut.is) in let i = length-append w rest in omega (arith, e, g, h, i, some));
    }

pub no_first : (line : List ℕ) → position_from (λ b. not (separates b)) 0 line ≡ None → words_in line ≡ []
no_first line is = ap words_in (sym (append-nil line)) ∙ words_behind line [] (none (λ b. not (separates b)) line 0 is)
