-- Rows to which the notes of a clerk are added.
use Rattle.std.proofs.Common.{◌≡◌, ◌⊎◌, ⊎_elim, inl, inr, ℕ, ◌<◌, List, [], ◌∷◌, ◌++◌, flat_map, length, map, reverse, refl, sym, ap, ◌∙◌, subst, arith, append_assoc, append-nil}
use Rattle.std.specs.List.{AllByRecursion}
use Rattle.std.specs.List.Sorted.{IsStrictlySortedBy}
use Rattle.std.proofs.lemmas.Grind.{reverse_onto}
use Rattle.std.proofs.lemmas.List.{length-reverse}
use Rattle.plain_state.specs.State.{Heap}
use Rattle.concordance_text.specs.Parts.{AreInEarlierLines}
use Rattle.concordance_text.specs.Rows.{AreRowsOf, IsElementOf, IsRising, TellsMention, WordRow, with_lines}
use Rattle.concordance_text.specs.Words.{Mention, mention}
use Rattle.concordance_text.proofs.MoreLines.{is_new, lines_are_added, new_is, rising_append}
use Rattle.concordance_text.proofs.Rests.{all_append}
use Rattle.concordance_text.proofs.Uniqueness.{all_in}
use Rattle.concordance_text.proofs.WordRuns.{in_either, in_left, in_right}
use Rattle.concordance.specs.Gathering.{BoardLeadsToNotes, with_notes}
use Rattle.concordance.specs.Notes.Invariant.{AreApart, AreFalling, AreTwo, HasLines, note_row}
use Rattle.concordance.specs.Notes.Records.{Note}

-- ---- lists in the other order

reverse-cons : {A : Type 0} (x : A) (xs : List A) → reverse (x ∷ xs) ≡ reverse xs ++ x ∷ []
reverse-cons x xs = reverse_onto xs x []

all_reverse : {A : Type 0} (P : A → Type 0) (xs : List A) → AllByRecursion P xs → AllByRecursion P (reverse xs)
all_reverse P [] all = tt
all_reverse P (x ∷ xs) all = subst (AllByRecursion P) (sym (reverse-cons x xs)) (all_append P (reverse xs) (x ∷ []) (all_reverse P xs all.1) (all.0, tt))

in_reverse : {A : Type 0} (x : A) (xs : List A) → IsElementOf x xs → IsElementOf x (reverse xs)
in_reverse x [] h = absurd h
in_reverse x (y ∷ ys) (inl e) = subst (IsElementOf x) (sym (reverse-cons y ys)) (in_right x (reverse ys) (y ∷ []) (inl e))
in_reverse x (y ∷ ys) (inr h) = subst (IsElementOf x) (sym (reverse-cons y ys)) (in_left x (reverse ys) (y ∷ []) (in_reverse x ys h))

last_or_reversed : {A : Type 0} (x y : A) (ys : List A) → (IsElementOf x (reverse ys) → IsElementOf x ys) → IsElementOf x (reverse ys) ⊎ IsElementOf x (y ∷ []) → IsElementOf x (y ∷ ys)
last_or_reversed x y ys later (inl h) = inr (later h)
last_or_reversed x y ys later (inr (inl e)) = inl e
last_or_reversed x y ys later (inr (inr h)) = absurd h

of_reverse : {A : Type 0} (x : A) (xs : List A) → IsElementOf x (reverse xs) → IsElementOf x xs
of_reverse x [] h = h
of_reverse x (y ∷ ys) h = last_or_reversed x y ys (of_reverse x ys) (in_either x (reverse ys) (y ∷ []) (subst (IsElementOf x) (reverse-cons y ys) h))

pub all_of : {A : Type 0} (P : A → Type 0) (xs : List A) → ((x : A) → IsElementOf x xs → P x) → AllByRecursion P xs
all_of P [] each = tt
all_of P (x ∷ xs) each = (each x (inl refl), all_of P xs (λ y h. each y (inr h)))

one_rises : (n : ℕ) → IsRising (n ∷ [])
unfolding IsStrictlySortedBy
one_rises n = (tt, tt)

-- falling lines rise in the other order
rising_reverse : (ns : List ℕ) → AreFalling ns → IsRising (reverse ns)
unfolding IsStrictlySortedBy
rising_reverse [] falling = tt
rising_reverse (n ∷ ns) falling =
    subst IsRising (sym (reverse-cons n ns))
    (rising_append (reverse ns) (n ∷ []) (rising_reverse ns falling.1) (one_rises n) (λ k h. (all_in (λ j. j < n) k ns falling.0 (of_reverse k ns h), tt)))

-- ---- what notes tell

-- a note's word in each of its lines
abbrev pub mentions_told : Note → List Mention
mentions_told e = map (mention e.word) (reverse e.lines)

pub told_in : (m : Mention) (notes : List Note) → TellsMention (map note_row notes) m → IsElementOf m (flat_map mentions_told notes)
told_in m [] h = absurd h
told_in m (e ∷ es) (inl h) = in_left m (mentions_told e) _ (new_is e.word (reverse e.lines) m (h.0, in_reverse m.line e.lines h.1))
told_in m (e ∷ es) (inr h) = in_right m (mentions_told e) _ (told_in m es h)

told_first : (e : Note) (es : List Note) (m : Mention) → IsElementOf m (mentions_told e) → TellsMention (map note_row (e ∷ es)) m
told_first e es m h = let n = is_new e.word (reverse e.lines) m h in inl (n.0, of_reverse m.line e.lines n.1)

pub in_told : (m : Mention) (notes : List Note) → IsElementOf m (flat_map mentions_told notes) → TellsMention (map note_row notes) m
in_told m [] h = absurd h
in_told m (e ∷ es) h = ⊎_elim (told_first e es m) (λ k. inr (in_told m es k)) (in_either m (mentions_told e) _ h)

-- each note tells its word in each of its lines
pub tells_line : (notes : List Note) (e : Note) (n : ℕ) → IsElementOf e notes → IsElementOf n e.lines → TellsMention (map note_row notes) (mention e.word n)
tells_line [] e n there line = absurd there
tells_line (f ∷ fs) e n (inl is) line = inl (ap (λ (g : Note). g.word) is, subst (λ (g : Note). IsElementOf n g.lines) is line)
tells_line (f ∷ fs) e n (inr there) line = inr (tells_line fs e n there line)

-- ---- the rows

-- each line of the notes is behind those of its word in these
ComeBehind : List Mention → List Note → Type 0
ComeBehind ms notes = (m : Mention) (e : Note) → IsElementOf m ms → IsElementOf e notes → m.word ≡ e.word → AllByRecursion (λ n. m.line < n) e.lines

behind_either : (ms : List Mention) (e : Note) (es : List Note) → AllByRecursion (AreTwo e) es → ComeBehind ms (e ∷ es) → (m : Mention) (f : Note) → IsElementOf f es → m.word ≡ f.word → IsElementOf m ms ⊎ IsElementOf m (mentions_told e)
    → AllByRecursion (λ n. m.line < n) f.lines
unfolding ComeBehind
behind_either ms e es apart behind m f there is (inl h) = behind m f h (inr there) is
behind_either ms e es apart behind m f there is (inr h) = absurd ((all_in (AreTwo e) f es apart there).words (sym is ∙ (is_new e.word (reverse e.lines) m h).0))

behind_more : (ms : List Mention) (e : Note) (es : List Note) → AllByRecursion (AreTwo e) es → ComeBehind ms (e ∷ es) → ComeBehind (ms ++ mentions_told e) es
unfolding ComeBehind
behind_more ms e es apart behind m f h there is = behind_either ms e es apart behind m f there is (in_either m ms (mentions_told e) h)

notes_added : (ms : List Mention) (rows : List WordRow) (notes : List Note) → AreRowsOf ms rows → AreApart notes → AllByRecursion HasLines notes → ComeBehind ms notes → AreRowsOf (ms ++ flat_map mentions_told notes) (with_notes notes rows)
unfolding ComeBehind
notes_added ms rows [] are apart lines behind = subst (λ (ns : List Mention). AreRowsOf ns rows) (sym (append-nil ms)) are
notes_added ms rows (e ∷ es) are apart lines behind =
    let some : 0 < length (reverse e.lines) = omega (arith, length-reverse e.lines, lines.0.some) in
    let next : AreRowsOf (ms ++ mentions_told e) (with_lines e.word (reverse e.lines) rows) =
    lines_are_added ms rows e.word (reverse e.lines) are some (rising_reverse e.lines lines.0.falling) (λ m h is. all_reverse (λ n. m.line < n) e.lines (behind m e h (inl refl) is)) in
    subst (λ (ns : List Mention). AreRowsOf ns (with_notes (e ∷ es) rows)) (append_assoc ms (mentions_told e) _)
    (notes_added (ms ++ mentions_told e) (with_lines e.word (reverse e.lines) rows) es next apart.1 lines.1 (behind_more ms e es apart.0 behind))

-- the same words in the same lines have the same rows
same_mentions : (ms ns : List Mention) (rows : List WordRow) → AreRowsOf ms rows → ((m : Mention) → IsElementOf m ns → IsElementOf m ms) → ((m : Mention) → IsElementOf m ms → IsElementOf m ns) → AreRowsOf ns rows
same_mentions ms ns rows are to back = record { ordered = are.ordered; rising = are.rising; some = are.some; all = λ m h. are.all m (to m h); only = λ m h. back m (are.only m h) }

in_both : {A : Type 0} (x : A) (xs ys zs : List A) → (IsElementOf x ys → IsElementOf x zs) → IsElementOf x (xs ++ ys) → IsElementOf x (xs ++ zs)
in_both x xs ys zs to h = ⊎_elim (in_left x xs zs) (λ k. in_right x xs zs (to k)) (in_either x xs ys h)

-- what a clerk has noted is added to rows of words in earlier lines
pub part_added : (heap : Heap) (k : ℕ) (ms mentions : List Mention) (rows : List WordRow) → AreRowsOf ms rows → AreInEarlierLines ms mentions → (has : BoardLeadsToNotes heap k mentions) → AreRowsOf (ms ++ mentions) (with_notes has.notes rows)
unfolding ComeBehind
part_added heap k ms mentions rows are earlier has =
    let notes = has.notes in
    let behind : ComeBehind ms notes = λ m e h there is. all_of (λ n. m.line < n) e.lines (λ n line. earlier m (mention e.word n) h (has.told.only (mention e.word n) (tells_line notes e n there line))) in
    same_mentions (ms ++ flat_map mentions_told notes) (ms ++ mentions) (with_notes notes rows) (notes_added ms rows notes are has.apart has.lines behind)
    (λ m h. in_both m ms mentions (flat_map mentions_told notes) (λ k. told_in m notes (has.told.all m k)) h)
    (λ m h. in_both m ms (flat_map mentions_told notes) mentions (λ k. has.told.only m (in_told m notes k)) h)
