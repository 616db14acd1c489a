-- A text that is cut at a line's end.
use Rattle.std.proofs.Common.{◌≡◌, ◌⊎◌, inl, inr, ℕ, ◌+◌, ◌<◌, List, [], ◌∷◌, ◌++◌, length, Bool, true, false, cond, refl, sym, ap, ap₂, ◌∙◌, arith, append_assoc, append-nil, subst, take, drop, drop_of_length-le}
use Rattle.std.specs.Prelude.{count_by}
use Rattle.std.specs.List.{slice_split, onto_first}
use Rattle.std.proofs.lemmas.List.Sums.{sum_by-append}
use Rattle.std.proofs.lemmas.List.Splits.{length-slice_split}
use Rattle.concordance_text.specs.Rows.{IsElementOf}
use Rattle.concordance_text.specs.Words.{Mention, ends_line, lines_of, mentions_from, mentions_in}
use Rattle.concordance_text.specs.declared.part.Part.{Part}
use Rattle.concordance_text.specs.Parts.{AreInEarlierLines, EndsWithLine, IsCut, bytes_of}
use Rattle.concordance_text.proofs.LineNumbers.{line_within}

onto_append : {X : Type 0} (x : X) (ps qs : List (List X)) → 0 < length ps → onto_first x (ps ++ qs) ≡ onto_first x ps ++ qs
onto_append x [] qs some = absurd (omega arith)
onto_append x (p ∷ ps) qs some = refl

split_step : {X : Type 0} (b : Bool) (x : X) (whole ps qs : List (List X)) → 0 < length ps → whole ≡ ps ++ qs → cond b ([] ∷ whole) (onto_first x whole) ≡ cond b ([] ∷ ps) (onto_first x ps) ++ qs
split_step true x whole ps qs some e = ap (λ l. [] ∷ l) e
split_step false x whole ps qs some e = ap (onto_first x) e ∙ onto_append x ps qs some

-- what is split is split on both sides of where it is split
pub slice_split-append : {X : Type 0} (p : X → Bool) (xs : List X) (y : X) (ys : List X) → p y ≡ true → slice_split p (xs ++ y ∷ ys) ≡ slice_split p xs ++ slice_split p ys
slice_split-append p [] y ys e = rw e refl
slice_split-append p (x ∷ xs) y ys e = split_step (p x) x _ (slice_split p xs) (slice_split p ys) (omega (arith, length-slice_split p xs)) (slice_split-append p xs y ys e)

-- the words of lines, and of those after them
pub mentions_from-append : (number : ℕ) (lines later : List (List ℕ)) → mentions_from number (lines ++ later) ≡ mentions_from number lines ++ mentions_from (number + length lines) later
mentions_from-append number [] later = ap (λ n. mentions_from n later) (omega arith)
mentions_from-append number (line ∷ lines) later =
    ap (λ ms. mentions_in number line ++ ms) (mentions_from-append (number + 1) lines later ∙ ap (λ n. mentions_from (number + 1) lines ++ mentions_from n later) (omega arith))
    ∙ sym (append_assoc (mentions_in number line) _ _)

-- a line that ends, with those after it
after_line : (number : ℕ) (front ys : List ℕ) → mentions_from number (lines_of (front ++ 10 ∷ ys)) ≡ mentions_from number (lines_of front) ++ mentions_from (number + count_by ends_line front + 1) (lines_of ys)
after_line number front ys =
    ap (mentions_from number) (slice_split-append ends_line front 10 ys refl)
    ∙ mentions_from-append number (lines_of front) (lines_of ys)
    ∙ ap (λ n. mentions_from number (lines_of front) ++ mentions_from n (lines_of ys)) (omega (arith, length-slice_split ends_line front))

count_by-end : (front : List ℕ) → count_by ends_line (front ++ 10 ∷ []) ≡ count_by ends_line front + 1
count_by-end front = sum_by-append (λ b. cond (ends_line b) 1 0) front (10 ∷ [])

-- the words of a text that is cut at a line's end are those of both parts
pub mentions_cut : (number : ℕ) (xs ys : List ℕ) → EndsWithLine xs ⊎ (ys ≡ []) → mentions_from number (lines_of xs) ++ mentions_from (number + count_by ends_line xs) (lines_of ys) ≡ mentions_from number (lines_of (xs ++ ys))
mentions_cut number xs ys (inr e) = rw e (append-nil _ ∙ ap (λ (bs : List ℕ). mentions_from number (lines_of bs)) (sym (append-nil xs)))
mentions_cut number xs ys (inl (inl e)) = rw e (ap (λ n. mentions_from n (lines_of ys)) (omega arith))
mentions_cut number xs ys (inl (inr e)) =
    rw e.1 (ap₂ (λ ms ns. ms ++ ns) (after_line number e.0 [] ∙ append-nil _) (ap (λ n. mentions_from n (lines_of ys)) (omega (arith, count_by-end e.0)))
    ∙ sym (after_line number e.0 ys)
    ∙ ap (λ (bs : List ℕ). mentions_from number (lines_of bs)) (sym (append_assoc e.0 (10 ∷ []) ys)))

-- the two sides of a place at which a text may be cut
pub cut_there : (place : ℕ) (text xs ys : List ℕ) → xs ≡ take place text → ys ≡ drop place text → EndsWithLine (take place text) ⊎ (place ≡ length text) → EndsWithLine xs ⊎ (ys ≡ [])
cut_there place text xs ys e f (inl h) = inl (subst EndsWithLine (sym e) h)
cut_there place text xs ys e f (inr h) = inr (f ∙ drop_of_length-le text (omega arith))

-- in a text that ends with a line's end, a word stands in a line before the one behind it
line_before : (number : ℕ) (text : List ℕ) (m : Mention) → EndsWithLine text → IsElementOf m (mentions_from number (lines_of text)) → m.line < number + count_by ends_line text
line_before number text m (inl e) h = absurd (subst (λ (bs : List ℕ). IsElementOf m (mentions_from number (lines_of bs))) e h)
line_before number text m (inr e) h =
    let in_front : IsElementOf m (mentions_from number (lines_of e.0)) =
    subst (IsElementOf m) (after_line number e.0 [] ∙ append-nil _) (subst (λ (bs : List ℕ). IsElementOf m (mentions_from number (lines_of bs))) e.1 h) in
    let within = (line_within number (lines_of e.0) m in_front).1 in
    omega (arith, within, length-slice_split ends_line e.0, count_by-end e.0, ap (count_by ends_line) e.1)

-- the words of a text that is cut at a line's end are in order
in_order_cut : (number : ℕ) (xs ys : List ℕ) → EndsWithLine xs ⊎ (ys ≡ []) → AreInEarlierLines (mentions_from number (lines_of xs)) (mentions_from (number + count_by ends_line xs) (lines_of ys))
in_order_cut number xs ys (inl ends) m n h k =
    let before = line_before number xs m ends h in
    let behind = (line_within (number + count_by ends_line xs) (lines_of ys) n k).0 in
    omega (arith, before, behind)
in_order_cut number xs ys (inr e) m n h k = absurd (subst (λ (bs : List ℕ). IsElementOf n (mentions_from (number + count_by ends_line xs) (lines_of bs))) e k)

-- two parts in a row, if the second begins with the right line
pub is_cut : (whole first rest : Part) → bytes_of first ++ bytes_of rest ≡ bytes_of whole → EndsWithLine (bytes_of first) ⊎ (bytes_of rest ≡ []) → first.line ≡ whole.line → rest.line ≡ whole.line + count_by ends_line (bytes_of first) → IsCut whole first rest
is_cut whole first rest bytes there begins later = record {
  bytes = bytes;
  at_line_end = there;
  begins = begins;
  mentions =
      ap₂ (λ n k. mentions_from n (lines_of (bytes_of first)) ++ mentions_from k (lines_of (bytes_of rest))) begins later
      ∙ mentions_cut whole.line (bytes_of first) (bytes_of rest) there
      ∙ ap (λ bs. mentions_from whole.line (lines_of bs)) bytes;
  in_order = subst (λ n. AreInEarlierLines (mentions_from first.line (lines_of (bytes_of first))) (mentions_from n (lines_of (bytes_of rest)))) (sym later)
      (subst (λ n. AreInEarlierLines (mentions_from n (lines_of (bytes_of first))) (mentions_from (whole.line + count_by ends_line (bytes_of first)) (lines_of (bytes_of rest)))) (sym begins)
      (in_order_cut whole.line (bytes_of first) (bytes_of rest) there));
}
