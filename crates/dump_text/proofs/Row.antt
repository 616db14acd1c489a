-- Reading the words of a line one after the other, as a loop does.
use Rattle.std.proofs.Common.{◌≡◌, ℕ, suc, ◌-◌, ◌+◌, ◌≤◌, ◌<◌, List, [], ◌∷◌, ◌++◌, Option, Some, None, refl, sym, ap, ◌∙◌, arith}
use Rattle.std.proofs.lemmas.List.{append_assoc, append-nil}
use Rattle.dump_text.specs.Pieces.{◌>>=◌, behind, cell_at, line_at}

-- what was read before, and what is still read
abbrev pub with_words : List ℕ → Option (List ℕ × List ℕ) → Option (List ℕ × List ℕ)
with_words front read = read >>= λ x. Some (front ++ x.0, x.1)

regroup : (front : List ℕ) (word : ℕ) (read : Option (List ℕ × List ℕ)) → with_words front (read >>= λ x. Some (word ∷ x.0, x.1)) ≡ with_words (front ++ word ∷ []) read
regroup front word (Some x) = ap (λ (xs : List ℕ). Some (xs, x.1)) (sym (append_assoc front (word ∷ []) x.0))
regroup front word None = refl

module _ (front : List ℕ) (count i : ℕ) (bytes : List ℕ) (total : Option (List ℕ × List ℕ)) where
  -- one more word
  pub word_goes_on : (word : ℕ) (after : List ℕ) → i < count → cell_at (behind (count - 1 - i)) bytes ≡ Some (word, after) → with_words front (line_at (count - i) bytes) ≡ total → with_words (front ++ word ∷ []) (line_at (count - (i + 1)) after) ≡ total
  word_goes_on word after lt h so_far =
      let k : count - i ≡ suc (count - (i + 1)) = omega arith in
      let left : count - 1 - i ≡ count - (i + 1) = omega arith in
      let one : with_words front (line_at (count - i) bytes) ≡ with_words (front ++ word ∷ []) (line_at (count - (i + 1)) after) = rw (k, rw left at h) (regroup front word (line_at (count - (i + 1)) after)) in
      sym one ∙ so_far

  -- no word is left
  pub words_done : count ≤ i → with_words front (line_at (count - i) bytes) ≡ total → total ≡ Some (front, bytes)
  words_done le so_far =
      let k : count - i ≡ 0 = omega arith in
      let one : with_words front (line_at (count - i) bytes) ≡ Some (front, bytes) = rw k (ap (λ (xs : List ℕ). Some (xs, bytes)) (append-nil front)) in
      sym so_far ∙ one
