-- Seats that are taken from the end of a new heap's.
use Rattle.std.proofs.Common.{◌≡◌, ◌<◌, true, false, List, [], ◌∷◌, ◌++◌, Option, Some, None, length, arith, ap, sym, ◌∙◌}
use Rattle.std.specs.Prelude.{IsSome, option_to_list}
use Rattle.std.proofs.lemmas.List.{length_push}
use Rattle.ael_threads.proofs.Lists.Elements.{one_less}

module _ {A : Type 0} (before : List A) (last : A) (items rest : List A) (result : Option A) where
  -- what is taken is the last, and the others are left
  pub last_taken : items ≡ before ++ last ∷ [] → items ≡ rest ++ option_to_list result → (0 < length items → IsSome result) → (result ≡ Some last) × (rest ≡ before)
  last_taken is split there = by_result result split there
    where
      by_result : (o : Option A) → items ≡ rest ++ option_to_list o → (0 < length items → IsSome o) → (o ≡ Some last) × (rest ≡ before)
      by_result None split there = let n = ap length is ∙ length_push before last in absurd (let q : false ≡ true = there (omega (arith, n)) in cc)
      by_result (Some m) split there = let r = one_less rest before m last (sym split ∙ is) in (ap Some r.0, r.1)
