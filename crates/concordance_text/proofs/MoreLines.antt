-- Rows with more lines of a word.
use Rattle.std.proofs.Common.{◌≡◌, ◌⊎◌, ⊎_elim, inl, inr, ℕ, ◌<◌, List, [], ◌∷◌, ◌++◌, map, length, length-append, refl, sym, ap, ◌∙◌, subst, arith, Ordering, Less, Equal, Greater}
use Rattle.std.specs.Cmp.{nat_cmp_is}
use Rattle.std.specs.Cmp.Lexicographic.{slice_cmp}
use Rattle.std.specs.List.{AllByRecursion}
use Rattle.std.specs.List.Sorted.{IsStrictlySortedBy}
use Rattle.std.specs.Ordering.{match_ordering, nat_cmp}
use Rattle.std.proofs.lemmas.Cmp.{nat_list_cmp_total}
use Rattle.std.proofs.lemmas.Map.Lookups.{exact_bytes}
use Rattle.concordance_text.specs.Words.{Mention, mention}
use Rattle.concordance_text.specs.Rows.{IsElementOf, IsRising, WordRow, TellsMention, row, with_lines}
use Rattle.concordance_text.specs.Theorems.{LinesAreAdded}
use Rattle.concordance_text.proofs.Existence.{placed, sorted_placed, word_of}
use Rattle.concordance_text.proofs.Rests.{all_append}
use Rattle.concordance_text.proofs.WordRuns.{in_either, in_left, in_map, in_right, of_map}

-- ---- their words

words_by : (w ns : List ℕ) (r : WordRow) (rs more : List WordRow) (ws : List (List ℕ)) (o : Ordering) → map word_of more ≡ ws
    → map word_of (match_ordering o (row w ns ∷ r ∷ rs) (row r.word (r.lines ++ ns) ∷ rs) (r ∷ more)) ≡ match_ordering o (w ∷ r.word ∷ map word_of rs) (r.word ∷ map word_of rs) (r.word ∷ ws)
words_by w ns r rs more ws Less e = refl
words_by w ns r rs more ws Equal e = refl
words_by w ns r rs more ws Greater e = ap (λ vs. r.word ∷ vs) e

words_with : (w ns : List ℕ) (rows : List WordRow) → map word_of (with_lines w ns rows) ≡ placed (slice_cmp nat_cmp) w (map word_of rows)
words_with w ns [] = refl
words_with w ns (r ∷ rs) = words_by w ns r rs (with_lines w ns rs) _ (slice_cmp nat_cmp w r.word) (words_with w ns rs)

-- ---- their lines

abbrev pub AreLater : List ℕ → ℕ → Type 0
AreLater ns n = AllByRecursion (λ k. n < k) ns

all_less : (n : ℕ) (ks : List ℕ) → AreLater ks n → AllByRecursion (λ k. nat_cmp n k ≡ Less) ks
all_less n [] later = tt
all_less n (k ∷ ks) later = (sym (nat_cmp_is n k Less later.0), all_less n ks later.1)

pub rising_append : (xs ys : List ℕ) → IsRising xs → IsRising ys → ((n : ℕ) → IsElementOf n xs → AreLater ys n) → IsRising (xs ++ ys)
unfolding IsStrictlySortedBy
rising_append [] ys rx ry later = ry
rising_append (x ∷ xs) ys rx ry later = (all_append _ xs ys rx.0 (all_less x ys (later x (inl refl))), rising_append xs ys rx.1 ry (λ n h. later n (inr h)))

rising_by : (w ns : List ℕ) (r : WordRow) (rs more : List WordRow) (o : Ordering) → (o ≡ Equal → w ≡ r.word) → IsRising ns → IsRising r.lines → AllByRecursion (λ (s : WordRow). IsRising s.lines) rs → AllByRecursion (λ (s : WordRow). IsRising s.lines) more
    → ((n : ℕ) → TellsMention (r ∷ rs) (mention w n) → AreLater ns n)
    → AllByRecursion (λ (s : WordRow). IsRising s.lines) (match_ordering o (row w ns ∷ r ∷ rs) (row r.word (r.lines ++ ns) ∷ rs) (r ∷ more))
rising_by w ns r rs more Less exact rn rr all later after = (rn, (rr, all))
rising_by w ns r rs more Equal exact rn rr all later after = (rising_append r.lines ns rr rn (λ n h. after n (inl (exact refl, h))), all)
rising_by w ns r rs more Greater exact rn rr all later after = (rr, later)

rising_with : (w ns : List ℕ) (rows : List WordRow) → IsRising ns → AllByRecursion (λ (s : WordRow). IsRising s.lines) rows → ((n : ℕ) → TellsMention rows (mention w n) → AreLater ns n) → AllByRecursion (λ (s : WordRow). IsRising s.lines) (with_lines w ns rows)
rising_with w ns [] rn all after = (rn, tt)
rising_with w ns (r ∷ rs) rn all after =
    rising_by w ns r rs (with_lines w ns rs) (slice_cmp nat_cmp w r.word) (exact_bytes w r.word) rn all.0 all.1 (rising_with w ns rs rn all.1 (λ n h. after n (inr h))) after

some_by : (w ns : List ℕ) (r : WordRow) (rs more : List WordRow) (o : Ordering) → 0 < length ns → 0 < length r.lines → AllByRecursion (λ (s : WordRow). 0 < length s.lines) rs → AllByRecursion (λ (s : WordRow). 0 < length s.lines) more
    → AllByRecursion (λ (s : WordRow). 0 < length s.lines) (match_ordering o (row w ns ∷ r ∷ rs) (row r.word (r.lines ++ ns) ∷ rs) (r ∷ more))
some_by w ns r rs more Less sn sr all later = (sn, (sr, all))
some_by w ns r rs more Equal sn sr all later = (omega (arith, length-append r.lines ns), all)
some_by w ns r rs more Greater sn sr all later = (sr, later)

some_with : (w ns : List ℕ) (rows : List WordRow) → 0 < length ns → AllByRecursion (λ (s : WordRow). 0 < length s.lines) rows → AllByRecursion (λ (s : WordRow). 0 < length s.lines) (with_lines w ns rows)
some_with w ns [] sn all = (sn, tt)
some_with w ns (r ∷ rs) sn all = some_by w ns r rs (with_lines w ns rs) (slice_cmp nat_cmp w r.word) sn all.0 all.1 (some_with w ns rs sn all.1)

-- ---- what they tell

abbrev pub IsNew : List ℕ → List ℕ → Mention → Type 0
IsNew w ns m = (m.word ≡ w) × IsElementOf m.line ns

told_by : (m : Mention) (w ns : List ℕ) (r : WordRow) (rs more : List WordRow) (o : Ordering) → (o ≡ Equal → w ≡ r.word) → (TellsMention more m → IsNew w ns m ⊎ TellsMention rs m)
    → TellsMention (match_ordering o (row w ns ∷ r ∷ rs) (row r.word (r.lines ++ ns) ∷ rs) (r ∷ more)) m → IsNew w ns m ⊎ TellsMention (r ∷ rs) m
told_by m w ns r rs more Less exact later h = h
told_by m w ns r rs more Equal exact later (inl h) = ⊎_elim (λ k. inr (inl (h.0, k))) (λ k. inl (h.0 ∙ sym (exact refl), k)) (in_either m.line r.lines ns h.1)
told_by m w ns r rs more Equal exact later (inr h) = inr (inr h)
told_by m w ns r rs more Greater exact later (inl h) = inr (inl h)
told_by m w ns r rs more Greater exact later (inr h) = ⊎_elim (λ e. inl e) (λ k. inr (inr k)) (later h)

told_with : (m : Mention) (w ns : List ℕ) (rows : List WordRow) → TellsMention (with_lines w ns rows) m → IsNew w ns m ⊎ TellsMention rows m
told_with m w ns [] h = h
told_with m w ns (r ∷ rs) h = told_by m w ns r rs (with_lines w ns rs) (slice_cmp nat_cmp w r.word) (exact_bytes w r.word) (told_with m w ns rs) h

tells_by : (m : Mention) (w ns : List ℕ) (r : WordRow) (rs more : List WordRow) (o : Ordering) → (o ≡ Equal → w ≡ r.word) → (IsNew w ns m ⊎ TellsMention rs m → TellsMention more m)
    → IsNew w ns m ⊎ TellsMention (r ∷ rs) m → TellsMention (match_ordering o (row w ns ∷ r ∷ rs) (row r.word (r.lines ++ ns) ∷ rs) (r ∷ more)) m
tells_by m w ns r rs more Less exact later h = h
tells_by m w ns r rs more Equal exact later (inl h) = inl (h.0 ∙ exact refl, in_right m.line r.lines ns h.1)
tells_by m w ns r rs more Equal exact later (inr (inl h)) = inl (h.0, in_left m.line r.lines ns h.1)
tells_by m w ns r rs more Equal exact later (inr (inr h)) = inr h
tells_by m w ns r rs more Greater exact later (inl h) = inr (later (inl h))
tells_by m w ns r rs more Greater exact later (inr (inl h)) = inl h
tells_by m w ns r rs more Greater exact later (inr (inr h)) = inr (later (inr h))

tells_with : (m : Mention) (w ns : List ℕ) (rows : List WordRow) → IsNew w ns m ⊎ TellsMention rows m → TellsMention (with_lines w ns rows) m
tells_with m w ns [] h = h
tells_with m w ns (r ∷ rs) h = tells_by m w ns r rs (with_lines w ns rs) (slice_cmp nat_cmp w r.word) (exact_bytes w r.word) (tells_with m w ns rs) h

-- ---- all of it

pub is_new : (w ns : List ℕ) (m : Mention) → IsElementOf m (map (mention w) ns) → IsNew w ns m
is_new w ns m h = let o = of_map (mention w) m ns h in (ap (λ (n : Mention). n.word) o.gives, subst (λ k. IsElementOf k ns) (sym (ap (λ (n : Mention). n.line) o.gives)) o.is)

pub new_is : (w ns : List ℕ) (m : Mention) → IsNew w ns m → IsElementOf m (map (mention w) ns)
new_is w ns m h = subst (λ v. IsElementOf (mention v m.line) (map (mention w) ns)) (sym h.0) (in_map (mention w) m.line ns h.1)

pub lines_are_added : LinesAreAdded
unfolding IsStrictlySortedBy
lines_are_added ms rows w ns are some rising after = record {
  ordered = subst (IsStrictlySortedBy (slice_cmp nat_cmp)) (sym (words_with w ns rows)) (sorted_placed nat_list_cmp_total w (map word_of rows) are.ordered);
  rising = rising_with w ns rows rising are.rising (λ n h. after (mention w n) (are.only (mention w n) h) refl);
  some = some_with w ns rows some are.some;
  all = λ m h. tells_with m w ns rows (⊎_elim (λ k. inr (are.all m k)) (λ k. inl (is_new w ns m k)) (in_either m ms _ h));
  only = λ m h. ⊎_elim (λ k. in_right m ms _ (new_is w ns m k)) (λ k. in_left m ms _ (are.only m k)) (told_with m w ns rows h);
}
