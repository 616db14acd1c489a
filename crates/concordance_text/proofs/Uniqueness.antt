-- Lists in order that have the same elements, and rows in order that tell the same.
use Rattle.std.proofs.Common.{◌≡◌, ◌⊎◌, inl, inr, ℕ, ◌<◌, List, [], ◌∷◌, map, length, refl, sym, ap, ap₂, ◌∙◌, subst, arith, Ordering, Less, Greater}
use Rattle.std.specs.Ordering.{nat_cmp, ordering_reverse}
use Rattle.std.specs.Cmp.{IsTotalOrder}
use Rattle.std.specs.Cmp.Lexicographic.{slice_cmp}
use Rattle.std.specs.List.{AllByRecursion}
use Rattle.std.specs.List.Sorted.{IsStrictlySortedBy}
use Rattle.std.proofs.lemmas.Cmp.{nat_cmp_total, nat_list_cmp_total}
use Rattle.concordance_text.specs.Words.{Mention, mention}
use Rattle.concordance_text.specs.Rows.{AreInOrder, IsElementOf, IsRising, WordRow, TellsMention, row}

pub never_below_itself : {K : Type 0} {R : K → K → Ordering} → IsTotalOrder R → (x : K) → R x x ≡ Less → ⊥
never_below_itself {R = R} o x less = let e : R x x ≡ ordering_reverse (R x x) = o.antisymm x x in let f : Less ≡ Greater = sym less ∙ e ∙ ap ordering_reverse less in cc

pub all_in : {K : Type 0} (P : K → Type 0) (x : K) (xs : List K) → AllByRecursion P xs → IsElementOf x xs → P x
all_in P x [] all h = absurd h
all_in P x (y ∷ ys) all (inl e) = subst P (sym e) all.0
all_in P x (y ∷ ys) all (inr h) = all_in P x ys all.1 h

-- ---- two lists in order, with the same elements

heads : {K : Type 0} {R : K → K → Ordering} → IsTotalOrder R → (x y : K) (xs ys : List K) → AllByRecursion (λ z. R x z ≡ Less) xs → AllByRecursion (λ z. R y z ≡ Less) ys
    → (x ≡ y) ⊎ IsElementOf x ys → (y ≡ x) ⊎ IsElementOf y xs → x ≡ y
heads o x y xs ys ax ay (inl e) g = e
heads o x y xs ys ax ay (inr h) (inl e) = sym e
heads {R = R} o x y xs ys ax ay (inr h) (inr k) = absurd (never_below_itself o x (o.trans x y x (all_in (λ z. R x z ≡ Less) y xs ax k) (all_in (λ z. R y z ≡ Less) x ys ay h)))

later_in : {K : Type 0} {R : K → K → Ordering} → IsTotalOrder R → (y z : K) (ys : List K) → R y z ≡ Less → (z ≡ y) ⊎ IsElementOf z ys → IsElementOf z ys
later_in {R = R} o y z ys less (inl e) = absurd (never_below_itself o y (subst (λ q. R y q ≡ Less) e less))
later_in o y z ys less (inr h) = h

pub same_lists : {K : Type 0} {R : K → K → Ordering} → IsTotalOrder R → (xs ys : List K) → IsStrictlySortedBy R xs → IsStrictlySortedBy R ys
    → ((z : K) → IsElementOf z xs → IsElementOf z ys) → ((z : K) → IsElementOf z ys → IsElementOf z xs) → xs ≡ ys
unfolding IsStrictlySortedBy
same_lists o [] [] sx sy to back = refl
same_lists o [] (y ∷ ys) sx sy to back = absurd (back y (inl refl))
same_lists o (x ∷ xs) [] sx sy to back = absurd (to x (inl refl))
same_lists {R = R} o (x ∷ xs) (y ∷ ys) sx sy to back =
    let e : x ≡ y = heads o x y xs ys sx.0 sy.0 (to x (inl refl)) (back y (inl refl)) in
    ap₂ (λ a b. a ∷ b) e (same_lists o xs ys sx.1 sy.1
    (λ z h. later_in o y z ys (subst (λ q. R q z ≡ Less) e (all_in (λ q. R x q ≡ Less) z xs sx.0 h)) (to z (inr h)))
    (λ z h. later_in o x z xs (subst (λ q. R q z ≡ Less) (sym e) (all_in (λ q. R y q ≡ Less) z ys sy.0 h)) (back z (inr h))))

-- ---- two lists of rows in order, which tell the same

abbrev IsBelow : List ℕ → List ℕ → Type 0
IsBelow v w = slice_cmp nat_cmp v w ≡ Less

abbrev words : List WordRow → List (List ℕ)
words rows = map (λ (r : WordRow). r.word) rows

-- what later rows tell is of later words
told_later : (v : List ℕ) (rs : List WordRow) (m : Mention) → AllByRecursion (IsBelow v) (words rs) → TellsMention rs m → IsBelow v m.word
told_later v [] m below h = absurd h
told_later v (r ∷ rs) m below (inl h) = subst (IsBelow v) (sym h.0) below.0
told_later v (r ∷ rs) m below (inr h) = told_later v rs m below.1 h

-- what a row tells of its word, no later row does
told_here : (s : WordRow) (ss : List WordRow) (m : Mention) → AllByRecursion (IsBelow s.word) (words ss) → m.word ≡ s.word → TellsMention (s ∷ ss) m → IsElementOf m.line s.lines
told_here s ss m below e (inl h) = h.1
told_here s ss m below e (inr h) = absurd (never_below_itself nat_list_cmp_total s.word (subst (IsBelow s.word) e (told_later s.word ss m below h)))

-- what is told of a later word, later rows tell
told_there : (s : WordRow) (ss : List WordRow) (m : Mention) → IsBelow s.word m.word → TellsMention (s ∷ ss) m → TellsMention ss m
told_there s ss m less (inl h) = absurd (never_below_itself nat_list_cmp_total s.word (subst (IsBelow s.word) h.0 less))
told_there s ss m less (inr h) = h

pub some_line : (lines : List ℕ) → 0 < length lines → (n : ℕ) × IsElementOf n lines
some_line [] some = absurd (omega arith)
some_line (n ∷ ns) some = (n, inl refl)

same_words : (r s : WordRow) (rs ss : List WordRow) (n k : ℕ) → AllByRecursion (IsBelow r.word) (words rs) → AllByRecursion (IsBelow s.word) (words ss)
    → TellsMention (s ∷ ss) (mention r.word n) → TellsMention (r ∷ rs) (mention s.word k) → r.word ≡ s.word
same_words r s rs ss n k below after (inl h) g = h.0
same_words r s rs ss n k below after (inr h) (inl g) = sym g.0
same_words r s rs ss n k below after (inr h) (inr g) =
    absurd (never_below_itself nat_list_cmp_total r.word (nat_list_cmp_total.trans r.word s.word r.word (told_later r.word rs (mention s.word k) below g) (told_later s.word ss (mention r.word n) after h)))

pub same_rows : (rs ss : List WordRow) → AreInOrder rs → AreInOrder ss → AllByRecursion (λ (r : WordRow). IsRising r.lines) rs → AllByRecursion (λ (s : WordRow). IsRising s.lines) ss
    → AllByRecursion (λ (r : WordRow). 0 < length r.lines) rs → AllByRecursion (λ (s : WordRow). 0 < length s.lines) ss
    → ((m : Mention) → TellsMention rs m → TellsMention ss m) → ((m : Mention) → TellsMention ss m → TellsMention rs m) → rs ≡ ss
unfolding IsStrictlySortedBy
same_rows [] [] or os rr rs_ lr ls to back = refl
same_rows [] (s ∷ ss) or os rr rs_ lr ls to back = absurd (let n = some_line s.lines ls.0 in back (mention s.word n.0) (inl (refl, n.1)))
same_rows (r ∷ rs) [] or os rr rs_ lr ls to back = absurd (let n = some_line r.lines lr.0 in to (mention r.word n.0) (inl (refl, n.1)))
same_rows (r ∷ rs) (s ∷ ss) or os rr rs_ lr ls to back =
    let n = some_line r.lines lr.0 in
    let k = some_line s.lines ls.0 in
    let e : r.word ≡ s.word = same_words r s rs ss n.0 k.0 or.0 os.0 (to (mention r.word n.0) (inl (refl, n.1))) (back (mention s.word k.0) (inl (refl, k.1))) in
    let lines : r.lines ≡ s.lines = same_lists nat_cmp_total r.lines s.lines rr.0 rs_.0
    (λ z h. told_here s ss (mention r.word z) os.0 e (to (mention r.word z) (inl (refl, h))))
    (λ z h. told_here r rs (mention s.word z) or.0 (sym e) (back (mention s.word z) (inl (refl, h)))) in
    ap₂ (λ a b. a ∷ b) (ap₂ row e lines) (same_rows rs ss or.1 os.1 rr.1 rs_.1 lr.1 ls.1
    (λ m h. told_there s ss m (subst (λ w. IsBelow w m.word) e (told_later r.word rs m or.0 h)) (to m (inr h)))
    (λ m h. told_there r rs m (subst (λ w. IsBelow w m.word) (sym e) (told_later s.word ss m os.0 h)) (back m (inr h))))
