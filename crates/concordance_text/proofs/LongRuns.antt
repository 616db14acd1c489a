-- The first line with a word that is too long, as the lines tell it and as runs of bytes do.
use Rattle.std.proofs.Common.{◌≡◌, ◌⊎◌, inl, inr, ⊎_elim, ℕ, zero, suc, ◌+◌, ◌<◌, ◌≤◌, Bool, true, false, List, [], ◌∷◌, ◌++◌, ◌||◌, length, refl, sym, ap, ◌∙◌, subst, arith, true≢false, Option, Some, None}
use Rattle.std.proofs.lemmas.List.{length-map}
use borrow.Author.Tests.{lt-ltb, ltb-true}
use Rattle.std.specs.List.{AllByRecursion, list_any, position_from}
use Rattle.concordance_text.specs.declared.letters.TheConstants.{MOST_LETTERS}
use Rattle.concordance_text.specs.Words.{IsFirstTooLong, Mention, has_long_word, is_too_long, lines_of, lower_cased, mention, mentions_from, mentions_of, words_in}
use Rattle.concordance_text.specs.Rows.{IsElementOf}
use Rattle.concordance_text.specs.Runs.{IsFirstLongRun, IsWordRun}
use Rattle.concordance_text.proofs.LongWords.{none, number_found}
use Rattle.concordance_text.proofs.Pieces.{At}
use Rattle.concordance_text.proofs.WordRuns.{from_run, in_lines, in_map, of_lines, of_map, to_run}

-- ---- elements

record Passes {X : Type 0} (p : X → Bool) (xs : List X) : Type 0 where
  item : X
  is : IsElementOf item xs
  passes : p item ≡ true

passes_by : {X : Type 0} (p : X → Bool) (x : X) (xs : List X) (b : Bool) → p x ≡ b → (list_any p xs ≡ true → Passes p xs) → b || list_any p xs ≡ true → Passes p (x ∷ xs)
passes_by p x xs true is later any = record { item = x; is = inl refl; passes = is }
passes_by p x xs false is later any = let l = later any in record { item = l.item; is = inr l.is; passes = l.passes }

any_passes : {X : Type 0} (p : X → Bool) (xs : List X) → list_any p xs ≡ true → Passes p xs
any_passes p [] any = absurd (true≢false (sym any))
any_passes p (x ∷ xs) any = passes_by p x xs (p x) refl (any_passes p xs) any

some_passes_by : {X : Type 0} (p : X → Bool) (x y : X) (ys : List X) (b : Bool) → p y ≡ b → p x ≡ true → ((x ≡ y) ⊎ (list_any p ys ≡ true)) → b || list_any p ys ≡ true
some_passes_by p x y ys true is passes h = refl
some_passes_by p x y ys false is passes (inl e) = absurd (true≢false (sym passes ∙ ap p e ∙ is))
some_passes_by p x y ys false is passes (inr h) = h

passes_any : {X : Type 0} (p : X → Bool) (x : X) (xs : List X) → IsElementOf x xs → p x ≡ true → list_any p xs ≡ true
passes_any p x [] h passes = absurd h
passes_any p x (y ∷ ys) (inl e) passes = some_passes_by p x y ys (p y) refl passes (inl e)
passes_any p x (y ∷ ys) (inr h) passes = some_passes_by p x y ys (p y) refl passes (inr (passes_any p x ys h passes))

at_here : {X : Type 0} (before : List X) (x : X) (after : List X) → At (before ++ x ∷ after) (length before) x
at_here [] x after = refl
at_here (y ∷ ys) x after = at_here ys x after

not_before : {X : Type 0} (P : X → Type 0) (before rest : List X) (k : ℕ) (x : X) → AllByRecursion P before → At (before ++ rest) k x → P x ⊎ (length before ≤ k)
not_before P [] rest k x all at = inr (omega arith)
not_before P (y ∷ ys) rest zero x all at = inl (subst P (sym at) all.0)
not_before P (y ∷ ys) rest (suc k) x all at = ⊎_elim (λ h. inl h) (λ h. inr (omega arith)) (not_before P ys rest k x all.1 at)

all_at : {X : Type 0} (P : X → Type 0) (xs : List X) (k : ℕ) (x : X) → AllByRecursion P xs → At xs k x → P x
all_at P [] k x all at = absurd at
all_at P (y ∷ ys) zero x all at = subst P (sym at) all.0
all_at P (y ∷ ys) (suc k) x all at = all_at P ys k x all.1 at

length_lower : (word : List ℕ) → length (lower_cased word) ≡ length word
length_lower word = length-map word _

-- ---- long words

-- the line of a long run has a long word
record LongLine (text : List ℕ) (m : Mention) : Type 0 where
  place : ℕ
  line : List ℕ
  at : At (lines_of text) place line
  number : m.line ≡ 1 + place
  long : has_long_word line ≡ true

long_line : (text : List ℕ) (m : Mention) → IsWordRun text m → MOST_LETTERS < length m.word → LongLine text m
long_line text m r long =
    let l = of_lines 1 (lines_of text) m (from_run text m r) in
    let w = of_map (λ word. mention (lower_cased word) (1 + l.place)) m (words_in l.line) l.is in
    let same : length m.word ≡ length w.item = ap (λ (n : Mention). length n.word) w.gives ∙ length_lower w.item in
    record {
      place = l.place;
      line = l.line;
      at = l.at;
      number = ap (λ (n : Mention). n.line) w.gives;
      long = passes_any is_too_long w.item (words_in l.line) w.is (lt-ltb MOST_LETTERS (length w.item) (omega arith));
    }

never_short : (text : List ℕ) (m : Mention) (l : LongLine text m) (before rest : List (List ℕ)) → lines_of text ≡ before ++ rest → AllByRecursion (λ k. has_long_word k ≡ false) before → length before + 1 ≤ m.line
never_short text m l before rest e short =
    ⊎_elim (λ h. absurd (true≢false (sym l.long ∙ h))) (λ h. (let n = l.number in omega arith))
    (not_before (λ k. has_long_word k ≡ false) before rest l.place l.line short (subst (λ ls. At ls l.place l.line) e l.at))

pub to_long_run : (text : List ℕ) (number : ℕ) → IsFirstTooLong text number → IsFirstLongRun text number
to_long_run text number f =
    let w = any_passes is_too_long (words_in f.line) f.long in
    let m = mention (lower_cased w.item) (1 + length f.before) in
    let in_text : IsElementOf m (mentions_of text) = subst (λ ls. IsElementOf m (mentions_from 1 ls)) (sym f.lines)
    (in_lines 1 (f.before ++ f.line ∷ f.after) m (length f.before) f.line (at_here f.before f.line f.after) (in_map (λ word. mention (lower_cased word) (1 + length f.before)) w.item (words_in f.line) w.is)) in
    record {
      found = m;
      is = to_run text m in_text;
      long = omega (arith, ltb-true MOST_LETTERS (length w.item) w.passes, length_lower w.item);
      here = omega (arith, f.number_is);
      none_before = λ n r long. (let s = never_short text n (long_line text n r long) f.before (f.line ∷ f.after) f.lines f.short in omega (arith, f.number_is));
    }

from_by : (text : List ℕ) (number : ℕ) (o : Option ℕ) → position_from has_long_word 0 (lines_of text) ≡ o → IsFirstLongRun text number → IsFirstTooLong text number
from_by text number (Some place) e g =
    let f = number_found text place (place + 1) e refl in
    let h = to_long_run text (place + 1) f in
    let low : number ≤ place + 1 = subst (λ n. number ≤ n) h.here (g.none_before h.found h.is h.long) in
    let high : place + 1 ≤ number = subst (λ n. place + 1 ≤ n) g.here (h.none_before g.found g.is g.long) in
    let same : place + 1 ≡ number = omega arith in
    subst (IsFirstTooLong text) same f
from_by text number None e g =
    let l = long_line text g.found g.is g.long in
    absurd (true≢false (sym l.long ∙ all_at (λ k. has_long_word k ≡ false) (lines_of text) l.place l.line (none has_long_word (lines_of text) 0 e) l.at))

pub from_long_run : (text : List ℕ) (number : ℕ) → IsFirstLongRun text number → IsFirstTooLong text number
from_long_run text number g = from_by text number (position_from has_long_word 0 (lines_of text)) refl g
