-- The words of a text, as its lines tell them and as runs of its bytes.
use Rattle.std.proofs.Common.{◌≡◌, ◌⊎◌, inl, inr, ⊎_elim, ℕ, zero, suc, ◌+◌, Bool, true, false, cond, List, [], ◌∷◌, ◌++◌, length, map, refl, sym, ap, ap₂, ◌∙◌, subst, arith, append_assoc, count_by, filter, true≢false}
use borrow.Author.Tests.{eqb-true, lt-ltb, ltb-true}
use Rattle.std.specs.List.{AllByRecursion, slice_split}
use Rattle.concordance_text.specs.Words.{Mention, ends_line, is_some_run, lines_of, lower_cased, mention, mentions_from, mentions_in, mentions_of, separates, words_in}
use Rattle.concordance_text.specs.Rows.{IsElementOf}
use Rattle.concordance_text.specs.Runs.{BeginsWith, EndsWith, IsWordRun}
use Rattle.concordance_text.proofs.Rests.{all_append}
use Rattle.concordance_text.proofs.Pieces.{At, at_first, at_last, at_piece, count_by-append, count_none, ends_cons, ends_tail, piece}

-- ---- elements

pub in_left : {X : Type 0} (x : X) (xs ys : List X) → IsElementOf x xs → IsElementOf x (xs ++ ys)
in_left x [] ys h = absurd h
in_left x (y ∷ xs) ys (inl e) = inl e
in_left x (y ∷ xs) ys (inr h) = inr (in_left x xs ys h)

pub in_right : {X : Type 0} (x : X) (xs ys : List X) → IsElementOf x ys → IsElementOf x (xs ++ ys)
in_right x [] ys h = h
in_right x (y ∷ xs) ys h = inr (in_right x xs ys h)

pub in_either : {X : Type 0} (x : X) (xs ys : List X) → IsElementOf x (xs ++ ys) → IsElementOf x xs ⊎ IsElementOf x ys
in_either x [] ys h = inr h
in_either x (y ∷ xs) ys (inl e) = inl (inl e)
in_either x (y ∷ xs) ys (inr h) = ⊎_elim (λ k. inl (inr k)) (λ k. inr k) (in_either x xs ys h)

pub in_map : {X Y : Type 0} (f : X → Y) (x : X) (xs : List X) → IsElementOf x xs → IsElementOf (f x) (map f xs)
in_map f x [] h = absurd h
in_map f x (y ∷ ys) (inl e) = inl (ap f e)
in_map f x (y ∷ ys) (inr h) = inr (in_map f x ys h)

pub record Of {X Y : Type 0} (f : X → Y) (xs : List X) (y : Y) : Type 0 where
  pub item : X
  pub is : IsElementOf item xs
  pub gives : y ≡ f item

pub of_map : {X Y : Type 0} (f : X → Y) (y : Y) (xs : List X) → IsElementOf y (map f xs) → Of f xs y
of_map f y [] h = absurd h
of_map f y (x ∷ xs) (inl e) = record { item = x; is = inl refl; gives = e }
of_map f y (x ∷ xs) (inr h) = let o = of_map f y xs h in record { item = o.item; is = inr o.is; gives = o.gives }

filter_by : {X : Type 0} (q : X → Bool) (x y : X) (ys kept : List X) (b : Bool) → q y ≡ b → (IsElementOf x kept → IsElementOf x ys × (q x ≡ true)) → IsElementOf x (cond b (y ∷ kept) kept) → IsElementOf x (y ∷ ys) × (q x ≡ true)
filter_by q x y ys kept true is later (inl e) = (inl e, ap q e ∙ is)
filter_by q x y ys kept true is later (inr h) = let l = later h in (inr l.0, l.1)
filter_by q x y ys kept false is later h = let l = later h in (inr l.0, l.1)

pub of_filter : {X : Type 0} (q : X → Bool) (x : X) (ys : List X) → IsElementOf x (filter q ys) → IsElementOf x ys × (q x ≡ true)
of_filter q x [] h = absurd h
of_filter q x (y ∷ ys) h = filter_by q x y ys (filter q ys) (q y) refl (of_filter q x ys) h

kept_by : {X : Type 0} (q : X → Bool) (x y : X) (kept : List X) (b : Bool) → q y ≡ b → q x ≡ true → (x ≡ y) ⊎ IsElementOf x kept → IsElementOf x (cond b (y ∷ kept) kept)
kept_by q x y kept true is passes h = h
kept_by q x y kept false is passes (inl e) = absurd (true≢false (sym passes ∙ ap q e ∙ is))
kept_by q x y kept false is passes (inr h) = h

in_filter : {X : Type 0} (q : X → Bool) (x : X) (ys : List X) → q x ≡ true → IsElementOf x ys → IsElementOf x (filter q ys)
in_filter q x [] passes h = absurd h
in_filter q x (y ∷ ys) passes (inl e) = kept_by q x y (filter q ys) (q y) refl passes (inl e)
in_filter q x (y ∷ ys) passes (inr h) = kept_by q x y (filter q ys) (q y) refl passes (inr (in_filter q x ys passes h))

at_in : {X : Type 0} (xs : List X) (k : ℕ) (x : X) → At xs k x → IsElementOf x xs
at_in [] k x at = absurd at
at_in (y ∷ ys) zero x at = inl at
at_in (y ∷ ys) (suc k) x at = inr (at_in ys k x at)

pub record Placed {X : Type 0} (xs : List X) (x : X) : Type 0 where
  pub place : ℕ
  pub at : At xs place x

pub in_at : {X : Type 0} (xs : List X) (x : X) → IsElementOf x xs → Placed xs x
in_at [] x h = absurd h
in_at (y ∷ ys) x (inl e) = record { place = 0; at = e }
in_at (y ∷ ys) x (inr h) = let p = in_at ys x h in record { place = suc p.place; at = p.at }

-- ---- the words of lines

pub record InLine (number : ℕ) (lines : List (List ℕ)) (m : Mention) : Type 0 where
  pub place : ℕ
  pub line : List ℕ
  pub at : At lines place line
  pub is : IsElementOf m (mentions_in (number + place) line)

of_lines_by : (number : ℕ) (line : List ℕ) (lines : List (List ℕ)) (m : Mention) → (IsElementOf m (mentions_from (number + 1) lines) → InLine (number + 1) lines m) → IsElementOf m (mentions_in number line) ⊎ IsElementOf m (mentions_from (number + 1) lines) → InLine number (line ∷ lines) m
of_lines_by number line lines m later (inl h) = record { place = 0; line = line; at = refl; is = let e : number ≡ number + 0 = omega arith in subst (λ n. IsElementOf m (mentions_in n line)) e h }
of_lines_by number line lines m later (inr h) =
    let l = later h in
    let e : number + 1 + l.place ≡ number + suc l.place = omega arith in
    record { place = suc l.place; line = l.line; at = l.at; is = subst (λ n. IsElementOf m (mentions_in n l.line)) e l.is }

pub of_lines : (number : ℕ) (lines : List (List ℕ)) (m : Mention) → IsElementOf m (mentions_from number lines) → InLine number lines m
of_lines number [] m h = absurd h
of_lines number (line ∷ lines) m h = of_lines_by number line lines m (of_lines (number + 1) lines m) (in_either m (mentions_in number line) _ h)

pub in_lines : (number : ℕ) (lines : List (List ℕ)) (m : Mention) (place : ℕ) (line : List ℕ) → At lines place line → IsElementOf m (mentions_in (number + place) line) → IsElementOf m (mentions_from number lines)
in_lines number [] m place line at h = absurd at
in_lines number (l ∷ ls) m zero line at h =
    let e : number + 0 ≡ number = omega arith in
    in_left m (mentions_in number l) _ (subst (λ n. IsElementOf m (mentions_in n l)) e (subst (λ k. IsElementOf m (mentions_in (number + 0) k)) at h))
in_lines number (l ∷ ls) m (suc place) line at h =
    let e : number + suc place ≡ number + 1 + place = omega arith in
    in_right m (mentions_in number l) _ (in_lines (number + 1) ls m place line at (subst (λ n. IsElementOf m (mentions_in n line)) e h))

-- ---- what separates

line_end_separates : (b : ℕ) → ends_line b ≡ true → separates b ≡ true
line_end_separates b e = subst (λ c. separates c ≡ true) (sym (eqb-true b 10 e)) refl

no_line_end_by : (b : ℕ) (t : Bool) → ends_line b ≡ t → separates b ≡ false → t ≡ false
no_line_end_by b true is letter = absurd (true≢false (sym (line_end_separates b is) ∙ letter))
no_line_end_by b false is letter = refl

no_line_ends : (run : List ℕ) → AllByRecursion (λ b. separates b ≡ false) run → AllByRecursion (λ b. ends_line b ≡ false) run
no_line_ends [] letters = tt
no_line_ends (b ∷ bs) letters = (no_line_end_by b (ends_line b) refl letters.0, no_line_ends bs letters.1)

all_front : {X : Type 0} (P : X → Type 0) (xs ys : List X) → AllByRecursion P (xs ++ ys) → AllByRecursion P xs
all_front P [] ys a = tt
all_front P (x ∷ xs) ys a = (a.0, all_front P xs ys a.1)

ends_join : (fs gs : List ℕ) → EndsWith ends_line fs → EndsWith separates gs → EndsWith separates (fs ++ gs)
ends_join [] gs e f = f
ends_join (b ∷ []) gs e f = ends_cons separates b gs (line_end_separates b e) f
ends_join (b ∷ c ∷ cs) gs e f = ends_join (c ∷ cs) gs e f

ends_rest : (fs gs : List ℕ) → EndsWith separates (fs ++ gs) → EndsWith separates gs
ends_rest [] gs e = e
ends_rest (b ∷ fs) gs e = ends_rest fs gs (ends_tail separates b (fs ++ gs) e)

begins_join : (bs cs : List ℕ) → BeginsWith separates bs → BeginsWith ends_line cs → BeginsWith separates (bs ++ cs)
begins_join [] [] e f = tt
begins_join [] (c ∷ cs) e f = line_end_separates c f
begins_join (b ∷ bs) cs e f = e

begins_front : (bs cs : List ℕ) → BeginsWith separates (bs ++ cs) → BeginsWith separates bs
begins_front [] cs e = tt
begins_front (b ∷ bs) cs e = e

joined : (f g w b c : List ℕ) → f ++ ((g ++ (w ++ b)) ++ c) ≡ (f ++ g) ++ (w ++ (b ++ c))
joined f g w b c = simp append_assoc

-- ---- both ways

run_of : (text line word : List ℕ) (k j : ℕ) (m : Mention) → At (lines_of text) k line → At (slice_split separates line) j word → is_some_run word ≡ true → m ≡ mention (lower_cased word) (1 + k) → IsWordRun text m
run_of text line word k j m at_line at_word some e =
    let l = piece ends_line text line k at_line in
    let w = piece separates line word j at_word in
    let none : count_by ends_line w.front ≡ 0 = count_none ends_line w.front (all_front _ w.front (word ++ w.back) (subst (AllByRecursion (λ b. ends_line b ≡ false)) w.is l.inside)) in
    record {
      front = l.front ++ w.front;
      run = word;
      back = w.back ++ l.back;
      text_is = l.is ∙ ap (λ bs. l.front ++ (bs ++ l.back)) w.is ∙ joined l.front w.front word w.back l.back;
      some = ltb-true 0 (length word) some;
      letters = w.inside;
      before = ends_join l.front w.front l.before w.before;
      behind = begins_join w.back l.back w.behind l.behind;
      word_is = ap (λ (n : Mention). n.word) e;
      line_is = ap (λ (n : Mention). n.line) e ∙ (let c = count_by-append ends_line l.front w.front in omega (arith, l.place));
    }

pub to_run : (text : List ℕ) (m : Mention) → IsElementOf m (mentions_of text) → IsWordRun text m
to_run text m h =
    let l = of_lines 1 (lines_of text) m h in
    let w = of_map (λ word. mention (lower_cased word) (1 + l.place)) m (words_in l.line) l.is in
    let s = of_filter is_some_run w.item (slice_split separates l.line) w.is in
    let p = in_at (slice_split separates l.line) w.item s.0 in
    run_of text l.line w.item l.place p.place m l.at p.at s.1 w.gives

pub from_run : (text : List ℕ) (m : Mention) → IsWordRun text m → IsElementOf m (mentions_of text)
from_run text m r =
    let f = at_last ends_line r.front in
    let b = at_first ends_line r.back in
    let line = f.rest ++ (r.run ++ b.front) in
    let text_is : text ≡ f.front ++ (line ++ b.rest) = r.text_is ∙ ap₂ (λ xs ys. xs ++ (r.run ++ ys)) f.is b.cut.is ∙ sym (joined f.front f.rest r.run b.front b.rest) in
    let at_line : At (lines_of text) (count_by ends_line f.front) line = at_piece ends_line text line _ (record {
      front = f.front;
      back = b.rest;
      is = text_is;
      inside = all_append _ f.rest (r.run ++ b.front) f.none (all_append _ r.run b.front (no_line_ends r.run r.letters) b.cut.none);
      before = f.ends;
      behind = b.cut.begins;
      place = refl;
    }) in
    let at_word : At (slice_split separates line) (count_by separates f.rest) r.run = at_piece separates line r.run _ (record {
      front = f.rest;
      back = b.front;
      is = refl;
      inside = r.letters;
      before = ends_rest f.front f.rest (subst (EndsWith separates) f.is r.before);
      behind = begins_front b.front b.rest (subst (BeginsWith separates) b.cut.is r.behind);
      place = refl;
    }) in
    let k = count_by ends_line f.front in
    let word : IsElementOf r.run (words_in line) = in_filter is_some_run r.run (slice_split separates line) (lt-ltb 0 (length r.run) r.some) (at_in _ _ r.run at_word) in
    let here : IsElementOf (mention (lower_cased r.run) (1 + k)) (mentions_of text) = in_lines 1 (lines_of text) _ k line at_line (in_map (λ w. mention (lower_cased w) (1 + k)) r.run (words_in line) word) in
    let lines : m.line ≡ 1 + k = r.line_is ∙ (let c : count_by ends_line r.front ≡ k + count_by ends_line f.rest = ap (count_by ends_line) f.is ∙ count_by-append ends_line f.front f.rest in omega (arith, count_none ends_line f.rest f.none)) in
    subst (λ n. IsElementOf n (mentions_of text)) (sym (ap₂ mention r.word_is lines)) here
