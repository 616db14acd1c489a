-- The rows of any words in their lines.
use Rattle.std.proofs.Common.{◌≡◌, ◌⊎◌, ⊎_elim, inl, inr, ℕ, ◌<◌, List, [], ◌∷◌, map, length, refl, sym, ap, ap₂, ◌∙◌, subst, arith, Ordering, Less, Equal, Greater}
use Rattle.std.specs.Ordering.{match_ordering, nat_cmp, ordering_reverse}
use Rattle.std.specs.Cmp.{IsTotalOrder}
use Rattle.std.specs.Cmp.Lexicographic.{slice_cmp}
use Rattle.std.specs.List.{AllByRecursion}
use Rattle.std.specs.List.Sorted.{IsStrictlySortedBy}
use Rattle.std.proofs.lemmas.Cmp.{nat_cmp_total, nat_list_cmp_total}
use Rattle.std.proofs.lemmas.Map.Lookups.{CmpEqualImpliesEq, exact_bytes, exact_unsigned}
use Rattle.concordance_text.specs.Words.{Mention, mention}
use Rattle.concordance_text.specs.Rows.{AreRowsOf, IsElementOf, IsRising, WordRow, TellsMention, row}

-- ---- one more element of a list in order

abbrev pub placed : {K : Type 0} → (K → K → Ordering) → K → List K → List K
placed R x [] = x ∷ []
placed R x (y ∷ ys) = match_ordering (R x y) (x ∷ y ∷ ys) (y ∷ ys) (y ∷ placed R x ys)

all_placed_by : {K : Type 0} (P : K → Type 0) (x y : K) (ys more : List K) (r : Ordering) → P x → P y → AllByRecursion P ys → AllByRecursion P more → AllByRecursion P (match_ordering r (x ∷ y ∷ ys) (y ∷ ys) (y ∷ more))
all_placed_by P x y ys more Less px py all later = (px, (py, all))
all_placed_by P x y ys more Equal px py all later = (py, all)
all_placed_by P x y ys more Greater px py all later = (py, later)

all_placed : {K : Type 0} (P : K → Type 0) (R : K → K → Ordering) (x : K) (ys : List K) → P x → AllByRecursion P ys → AllByRecursion P (placed R x ys)
all_placed P R x [] px all = (px, tt)
all_placed P R x (y ∷ ys) px all = all_placed_by P x y ys (placed R x ys) (R x y) px all.0 all.1 (all_placed P R x ys px all.1)

all_below : {K : Type 0} {R : K → K → Ordering} → IsTotalOrder R → (x y : K) (ys : List K) → R x y ≡ Less → AllByRecursion (λ z. R y z ≡ Less) ys → AllByRecursion (λ z. R x z ≡ Less) ys
all_below o x y [] less all = tt
all_below o x y (z ∷ zs) less all = (o.trans x y z less all.0, all_below o x y zs less all.1)

sorted_by : {K : Type 0} {R : K → K → Ordering} → IsTotalOrder R → (x y : K) (ys : List K) (r : Ordering) → R x y ≡ r → IsStrictlySortedBy R (y ∷ ys) → IsStrictlySortedBy R (placed R x ys)
    → IsStrictlySortedBy R (match_ordering r (x ∷ y ∷ ys) (y ∷ ys) (y ∷ placed R x ys))
unfolding IsStrictlySortedBy
sorted_by o x y ys Less e sorted later = ((e, all_below o x y ys e sorted.0), sorted)
sorted_by o x y ys Equal e sorted later = sorted
sorted_by {R = R} o x y ys Greater e sorted later = (all_placed (λ z. R y z ≡ Less) R x ys (o.antisymm y x ∙ ap ordering_reverse e) sorted.0, later)

pub sorted_placed : {K : Type 0} {R : K → K → Ordering} → IsTotalOrder R → (x : K) (ys : List K) → IsStrictlySortedBy R ys → IsStrictlySortedBy R (placed R x ys)
unfolding IsStrictlySortedBy
sorted_placed o x [] sorted = (tt, tt)
sorted_placed {R = R} o x (y ∷ ys) sorted = sorted_by o x y ys (R x y) refl sorted (sorted_placed o x ys sorted.1)

-- which elements it has
in_placed_by : {K : Type 0} (z x y : K) (ys more : List K) (r : Ordering) → (IsElementOf z more → (z ≡ x) ⊎ IsElementOf z ys) → IsElementOf z (match_ordering r (x ∷ y ∷ ys) (y ∷ ys) (y ∷ more)) → (z ≡ x) ⊎ IsElementOf z (y ∷ ys)
in_placed_by z x y ys more Less later h = h
in_placed_by z x y ys more Equal later h = inr h
in_placed_by z x y ys more Greater later (inl e) = inr (inl e)
in_placed_by z x y ys more Greater later (inr h) = ⊎_elim (λ e. inl e) (λ k. inr (inr k)) (later h)

in_placed : {K : Type 0} (R : K → K → Ordering) (z x : K) (ys : List K) → IsElementOf z (placed R x ys) → (z ≡ x) ⊎ IsElementOf z ys
in_placed R z x [] h = h
in_placed R z x (y ∷ ys) h = in_placed_by z x y ys (placed R x ys) (R x y) (in_placed R z x ys) h

kept_by : {K : Type 0} (z x y : K) (ys more : List K) (r : Ordering) → (IsElementOf z ys → IsElementOf z more) → IsElementOf z (y ∷ ys) → IsElementOf z (match_ordering r (x ∷ y ∷ ys) (y ∷ ys) (y ∷ more))
kept_by z x y ys more Less later h = inr h
kept_by z x y ys more Equal later h = h
kept_by z x y ys more Greater later (inl e) = inl e
kept_by z x y ys more Greater later (inr h) = inr (later h)

kept_placed : {K : Type 0} (R : K → K → Ordering) (z x : K) (ys : List K) → IsElementOf z ys → IsElementOf z (placed R x ys)
kept_placed R z x [] h = absurd h
kept_placed R z x (y ∷ ys) h = kept_by z x y ys (placed R x ys) (R x y) (kept_placed R z x ys) h

new_by : {K : Type 0} (x y : K) (ys more : List K) (r : Ordering) → (r ≡ Equal → x ≡ y) → IsElementOf x more → IsElementOf x (match_ordering r (x ∷ y ∷ ys) (y ∷ ys) (y ∷ more))
new_by x y ys more Less exact later = inl refl
new_by x y ys more Equal exact later = inl (exact refl)
new_by x y ys more Greater exact later = inr later

new_placed : {K : Type 0} (R : K → K → Ordering) → CmpEqualImpliesEq R → (x : K) (ys : List K) → IsElementOf x (placed R x ys)
new_placed R exact x [] = inl refl
new_placed R exact x (y ∷ ys) = new_by x y ys (placed R x ys) (R x y) (exact x y) (new_placed R exact x ys)

in_some : {K : Type 0} (x : K) (xs : List K) → IsElementOf x xs → 0 < length xs
in_some x [] h = absurd h
in_some x (y ∷ ys) h = omega arith

-- ---- rows with one more

abbrev noted : List ℕ → ℕ → List WordRow → List WordRow
noted w n [] = row w (n ∷ []) ∷ []
noted w n (r ∷ rs) = match_ordering (slice_cmp nat_cmp w r.word) (row w (n ∷ []) ∷ r ∷ rs) (row r.word (placed nat_cmp n r.lines) ∷ rs) (r ∷ noted w n rs)

abbrev pub word_of : WordRow → List ℕ
word_of r = r.word

words_by : (w : List ℕ) (n : ℕ) (r : WordRow) (rs more : List WordRow) (ws : List (List ℕ)) (o : Ordering) → map word_of more ≡ ws
    → map word_of (match_ordering o (row w (n ∷ []) ∷ r ∷ rs) (row r.word (placed nat_cmp n r.lines) ∷ rs) (r ∷ more)) ≡ match_ordering o (w ∷ r.word ∷ map word_of rs) (r.word ∷ map word_of rs) (r.word ∷ ws)
words_by w n r rs more ws Less e = refl
words_by w n r rs more ws Equal e = refl
words_by w n r rs more ws Greater e = ap (λ vs. r.word ∷ vs) e

words_noted : (w : List ℕ) (n : ℕ) (rows : List WordRow) → map word_of (noted w n rows) ≡ placed (slice_cmp nat_cmp) w (map word_of rows)
words_noted w n [] = refl
words_noted w n (r ∷ rs) = words_by w n r rs (noted w n rs) _ (slice_cmp nat_cmp w r.word) (words_noted w n rs)

-- of each row, what is so of a new one and stays so with one more line
all_noted_by : (P : WordRow → Type 0) (w : List ℕ) (n : ℕ) (r : WordRow) (rs more : List WordRow) (o : Ordering) → P (row w (n ∷ [])) → (P r → P (row r.word (placed nat_cmp n r.lines))) → P r → AllByRecursion P rs → AllByRecursion P more
    → AllByRecursion P (match_ordering o (row w (n ∷ []) ∷ r ∷ rs) (row r.word (placed nat_cmp n r.lines) ∷ rs) (r ∷ more))
all_noted_by P w n r rs more Less new stays pr all later = (new, (pr, all))
all_noted_by P w n r rs more Equal new stays pr all later = (stays pr, all)
all_noted_by P w n r rs more Greater new stays pr all later = (pr, later)

all_noted : (P : WordRow → Type 0) (w : List ℕ) (n : ℕ) (rows : List WordRow) → P (row w (n ∷ [])) → ((r : WordRow) → P r → P (row r.word (placed nat_cmp n r.lines))) → AllByRecursion P rows → AllByRecursion P (noted w n rows)
all_noted P w n [] new stays all = (new, tt)
all_noted P w n (r ∷ rs) new stays all = all_noted_by P w n r rs (noted w n rs) (slice_cmp nat_cmp w r.word) new (stays r) all.0 all.1 (all_noted P w n rs new stays all.1)

-- what they tell
told_by : (m : Mention) (w : List ℕ) (n : ℕ) (r : WordRow) (rs more : List WordRow) (o : Ordering) → (o ≡ Equal → w ≡ r.word) → (TellsMention more m → (m ≡ mention w n) ⊎ TellsMention rs m)
    → TellsMention (match_ordering o (row w (n ∷ []) ∷ r ∷ rs) (row r.word (placed nat_cmp n r.lines) ∷ rs) (r ∷ more)) m → (m ≡ mention w n) ⊎ TellsMention (r ∷ rs) m
told_by m w n r rs more Less exact later (inl h) = ⊎_elim (λ e. inl (ap₂ mention h.0 e)) (λ k. absurd k) h.1
told_by m w n r rs more Less exact later (inr h) = inr h
told_by m w n r rs more Equal exact later (inl h) = ⊎_elim (λ e. inl (ap₂ mention (h.0 ∙ sym (exact refl)) e)) (λ k. inr (inl (h.0, k))) (in_placed nat_cmp m.line n r.lines h.1)
told_by m w n r rs more Equal exact later (inr h) = inr (inr h)
told_by m w n r rs more Greater exact later (inl h) = inr (inl h)
told_by m w n r rs more Greater exact later (inr h) = ⊎_elim (λ e. inl e) (λ k. inr (inr k)) (later h)

told_noted : (m : Mention) (w : List ℕ) (n : ℕ) (rows : List WordRow) → TellsMention (noted w n rows) m → (m ≡ mention w n) ⊎ TellsMention rows m
told_noted m w n [] (inl h) = ⊎_elim (λ e. inl (ap₂ mention h.0 e)) (λ k. absurd k) h.1
told_noted m w n [] (inr h) = absurd h
told_noted m w n (r ∷ rs) h = told_by m w n r rs (noted w n rs) (slice_cmp nat_cmp w r.word) (exact_bytes w r.word) (told_noted m w n rs) h

still_by : (m : Mention) (w : List ℕ) (n : ℕ) (r : WordRow) (rs more : List WordRow) (o : Ordering) → (TellsMention rs m → TellsMention more m)
    → TellsMention (r ∷ rs) m → TellsMention (match_ordering o (row w (n ∷ []) ∷ r ∷ rs) (row r.word (placed nat_cmp n r.lines) ∷ rs) (r ∷ more)) m
still_by m w n r rs more Less later h = inr h
still_by m w n r rs more Equal later (inl h) = inl (h.0, kept_placed nat_cmp m.line n r.lines h.1)
still_by m w n r rs more Equal later (inr h) = inr h
still_by m w n r rs more Greater later (inl h) = inl h
still_by m w n r rs more Greater later (inr h) = inr (later h)

still_noted : (m : Mention) (w : List ℕ) (n : ℕ) (rows : List WordRow) → TellsMention rows m → TellsMention (noted w n rows) m
still_noted m w n [] h = absurd h
still_noted m w n (r ∷ rs) h = still_by m w n r rs (noted w n rs) (slice_cmp nat_cmp w r.word) (still_noted m w n rs) h

new_told_by : (w : List ℕ) (n : ℕ) (r : WordRow) (rs more : List WordRow) (o : Ordering) → (o ≡ Equal → w ≡ r.word) → TellsMention more (mention w n)
    → TellsMention (match_ordering o (row w (n ∷ []) ∷ r ∷ rs) (row r.word (placed nat_cmp n r.lines) ∷ rs) (r ∷ more)) (mention w n)
new_told_by w n r rs more Less exact later = inl (refl, inl refl)
new_told_by w n r rs more Equal exact later = inl (exact refl, new_placed nat_cmp exact_unsigned n r.lines)
new_told_by w n r rs more Greater exact later = inr later

new_told : (w : List ℕ) (n : ℕ) (rows : List WordRow) → TellsMention (noted w n rows) (mention w n)
new_told w n [] = inl (refl, inl refl)
new_told w n (r ∷ rs) = new_told_by w n r rs (noted w n rs) (slice_cmp nat_cmp w r.word) (exact_bytes w r.word) (new_told w n rs)

-- ---- the rows of any words in their lines

abbrev pub rows_for : List Mention → List WordRow
rows_for [] = []
rows_for (m ∷ ms) = noted m.word m.line (rows_for ms)

one_more : (n : Mention) (ms : List Mention) → AreRowsOf ms (rows_for ms) → AreRowsOf (n ∷ ms) (rows_for (n ∷ ms))
unfolding IsStrictlySortedBy
one_more n ms are = record {
  ordered = subst (IsStrictlySortedBy (slice_cmp nat_cmp)) (sym (words_noted n.word n.line (rows_for ms))) (sorted_placed nat_list_cmp_total n.word (map word_of (rows_for ms)) are.ordered);
  rising = all_noted (λ r. IsRising r.lines) n.word n.line (rows_for ms) (tt, tt) (λ r h. sorted_placed nat_cmp_total n.line r.lines h) are.rising;
  some = all_noted (λ r. 0 < length r.lines) n.word n.line (rows_for ms) (omega arith) (λ r h. in_some n.line (placed nat_cmp n.line r.lines) (new_placed nat_cmp exact_unsigned n.line r.lines)) are.some;
  all = λ m h. ⊎_elim (λ e. subst (TellsMention (rows_for (n ∷ ms))) (sym e) (new_told n.word n.line (rows_for ms))) (λ k. still_noted m n.word n.line (rows_for ms) (are.all m k)) h;
  only = λ m h. ⊎_elim (λ e. inl e) (λ k. inr (are.only m k)) (told_noted m n.word n.line (rows_for ms) h);
}

pub are_rows : (ms : List Mention) → AreRowsOf ms (rows_for ms)
unfolding IsStrictlySortedBy
are_rows [] = record { ordered = tt; rising = tt; some = tt; all = λ m h. h; only = λ m h. h }
are_rows (n ∷ ms) = one_more n ms (are_rows ms)
