-- What the first line of a text and the lines behind it have of its words.
use Rattle.std.proofs.Common.{◌≡◌, ◌⊎◌, inl, inr, ℕ, ◌+◌, false, List, [], ◌∷◌, ◌++◌, refl, sym, ap, ◌∙◌, subst}
use Rattle.std.specs.List.{AllByRecursion}
use Rattle.concordance_text.specs.Lines.{BeginsWithLine}
use Rattle.concordance_text.specs.Words.{HasShortWords, has_long_word, lines_of, mentions_from, mentions_in}
use Rattle.concordance_text.proofs.FirstLine.{lines_ended, lines_last}

module _ (text line behind : List ℕ) (first : BeginsWithLine text line behind) where
  -- they have its words
  pub has_mentions : (n : ℕ) → mentions_from n (lines_of text) ≡ mentions_in n line ++ mentions_from (n + 1) (lines_of behind)
  has_mentions n = by first.whole
    where
      by : (text ≡ line ++ 10 ∷ behind) ⊎ ((text ≡ line) × (behind ≡ [])) → mentions_from n (lines_of text) ≡ mentions_in n line ++ mentions_from (n + 1) (lines_of behind)
      by (inl ended) = ap (λ bs. mentions_from n (lines_of bs)) ended ∙ ap (mentions_from n) (lines_ended line behind first.one)
      by (inr last) = ap (λ bs. mentions_from n (lines_of bs)) last.0 ∙ ap (mentions_from n) (lines_last line first.one) ∙ ap (λ bs. mentions_in n line ++ mentions_from (n + 1) (lines_of bs)) (sym last.1)

  -- and no longer ones
  pub has_short : HasShortWords text → (has_long_word line ≡ false) × HasShortWords behind
  has_short short = by first.whole
    where
      P : List (List ℕ) → Type 0
      P = AllByRecursion (λ l. has_long_word l ≡ false)

      by : (text ≡ line ++ 10 ∷ behind) ⊎ ((text ≡ line) × (behind ≡ [])) → (has_long_word line ≡ false) × HasShortWords behind
      by (inl ended) = subst P (ap lines_of ended ∙ lines_ended line behind first.one) short
      by (inr last) = ((subst P (ap lines_of last.0 ∙ lines_last line first.one) short).0, subst HasShortWords (sym last.1) (refl, tt))
