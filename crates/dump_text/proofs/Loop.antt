-- Reading lines of one kind one after the other, as a loop does.
use Rattle.std.proofs.Common.{◌≡◌, ℕ, suc, ◌-◌, ◌+◌, ◌≤◌, ◌<◌, List, [], ◌∷◌, ◌++◌, Some, None, Result, Ok, Err, refl, sym, ap, ◌∙◌, arith}
use Rattle.std.proofs.lemmas.List.{append_assoc, append-nil}
use Rattle.dump_text.specs.Pieces.{Piece}
use Rattle.dump_text.specs.Reading.{◌>>=◌, many}

-- what was read before, and what is still read
abbrev pub with_front : {A : Type 0} → List A → Result (List A × List ℕ) ℕ → Result (List A × List ℕ) ℕ
with_front front read = read >>= λ x. Ok (front ++ x.0, x.1)

regroup : {A : Type 0} (front : List A) (a : A) (read : Result (List A × List ℕ) ℕ) → with_front front (read >>= λ x. Ok (a ∷ x.0, x.1)) ≡ with_front (front ++ a ∷ []) read
regroup {A} front a (Ok x) = ap (λ (xs : List A). Ok (xs, x.1)) (sym (append_assoc front (a ∷ []) x.0))
regroup front a (Err l) = refl

module _ {A : Type 0} (piece : Piece A) (front : List A) (count i line : ℕ) (bytes : List ℕ) (total : Result (List A × List ℕ) ℕ) where
  -- one more line
  pub goes_on : (a : A) (after : List ℕ) → i < count → piece bytes ≡ Some (a, after) → with_front front (many piece (count - i) (line + i) bytes) ≡ total → with_front (front ++ a ∷ []) (many piece (count - (i + 1)) (line + (i + 1)) after) ≡ total
  goes_on a after lt h so_far =
      let k : count - i ≡ suc (count - (i + 1)) = omega arith in
      let next : line + i + 1 ≡ line + (i + 1) = omega arith in
      let one : with_front front (many piece (count - i) (line + i) bytes) ≡ with_front (front ++ a ∷ []) (many piece (count - (i + 1)) (line + (i + 1)) after) = rw (k, h, next) (regroup front a (many piece (count - (i + 1)) (line + (i + 1)) after)) in
      sym one ∙ so_far

  -- a wrong line
  pub stops : i < count → piece bytes ≡ None → with_front front (many piece (count - i) (line + i) bytes) ≡ total → total ≡ Err (line + i)
  stops lt h so_far =
      let k : count - i ≡ suc (count - (i + 1)) = omega arith in
      let one : with_front front (many piece (count - i) (line + i) bytes) ≡ Err (line + i) = rw (k, h) refl in
      sym so_far ∙ one

  -- no line is left
  pub is_done : count ≤ i → with_front front (many piece (count - i) (line + i) bytes) ≡ total → total ≡ Ok (front, bytes)
  is_done le so_far =
      let k : count - i ≡ 0 = omega arith in
      let one : with_front front (many piece (count - i) (line + i) bytes) ≡ Ok (front, bytes) = rw k (ap (λ (xs : List A). Ok (xs, bytes)) (append-nil front)) in
      sym so_far ∙ one
