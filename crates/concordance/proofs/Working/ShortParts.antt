-- Parts of a text without too long words have none either.
use Rattle.std.proofs.Common.{◌≡◌, ◌⊎◌, inl, inr, ℕ, false, List, [], ◌∷◌, ◌++◌, flat_map, refl, sym, ap, ◌∙◌, subst, append_assoc, append-nil}
use Rattle.std.specs.List.{AllByRecursion}
use Rattle.concordance_text.specs.declared.part.Part.{Part}
use Rattle.concordance_text.specs.Parts.{AreCutAtLineEnds, EndsWithLine, bytes_of}
use Rattle.concordance_text.specs.Words.{HasShortWords, ends_line, has_long_word, lines_of}
use Rattle.concordance_text.proofs.Cuts.{slice_split-append}
use Rattle.concordance.specs.Working.{IsShort}
use Rattle.concordance.proofs.Lists.Elements.{all_apart, all_append}

none_short : HasShortWords []
none_short = (refl, tt)

-- a text that is cut behind a line's end
cut_short : (front ys : List ℕ) → HasShortWords (front ++ 10 ∷ ys) → HasShortWords (front ++ 10 ∷ []) × HasShortWords ys
cut_short front ys short =
    let P : List ℕ → Type 0 = λ line. has_long_word line ≡ false in
    let both = all_apart P (lines_of front) (lines_of ys) (subst (AllByRecursion P) (slice_split-append ends_line front 10 ys refl) short) in
    (subst (AllByRecursion P) (sym (slice_split-append ends_line front 10 [] refl)) (all_append P (lines_of front) (lines_of []) both.0 none_short), both.1)

both_short : (xs ys : List ℕ) → EndsWithLine xs ⊎ (ys ≡ []) → HasShortWords (xs ++ ys) → HasShortWords xs × HasShortWords ys
both_short xs ys (inl (inl none)) short = (subst HasShortWords (sym none) none_short, subst (λ (bs : List ℕ). HasShortWords (bs ++ ys)) none short)
both_short xs ys (inl (inr ends)) short =
    let is : xs ++ ys ≡ ends.0 ++ 10 ∷ ys = ap (λ (bs : List ℕ). bs ++ ys) ends.1 ∙ append_assoc ends.0 (10 ∷ []) ys in
    let both = cut_short ends.0 ys (subst HasShortWords is short) in
    (subst HasShortWords (sym ends.1) both.0, both.1)
both_short xs ys (inr none) short = (subst HasShortWords (ap (λ (bs : List ℕ). xs ++ bs) none ∙ append-nil xs) short, subst HasShortWords (sym none) none_short)

all_short : (parts : List Part) → AreCutAtLineEnds parts → HasShortWords (flat_map bytes_of parts) → AllByRecursion IsShort parts
all_short [] cut short = tt
all_short (p ∷ ps) cut short = let both = both_short (bytes_of p) (flat_map bytes_of ps) cut.0 short in (both.0, all_short ps cut.1 both.1)

pub parts_short : (text : List ℕ) (parts : List Part) → flat_map bytes_of parts ≡ text → AreCutAtLineEnds parts → HasShortWords text → AllByRecursion IsShort parts
parts_short text parts is cut short = all_short parts cut (subst HasShortWords (sym is) short)
