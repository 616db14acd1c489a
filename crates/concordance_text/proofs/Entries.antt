-- The rows of a map's entries.
use Rattle.std.proofs.Common.{◌≡◌, ℕ, List, [], ◌∷◌, map, Vec, Less}
use Rattle.std.specs.Ordering.{nat_cmp}
use Rattle.std.specs.Cmp.Lexicographic.{slice_cmp}
use Rattle.std.specs.Map.{keys_of}
use Rattle.std.specs.List.{AllByRecursion}
use Rattle.std.specs.List.Sorted.{IsStrictlySortedBy}
use Rattle.concordance_text.specs.Rows.{AreInOrder, WordRow, rows_of_entries}

below : {Y : Type 0} (word : List ℕ) (es : List (Vec ℕ Y × Vec ℕ Y)) → AllByRecursion (λ (k : Vec ℕ Y). slice_cmp nat_cmp word k.items ≡ Less) (keys_of es)
    → AllByRecursion (λ w. slice_cmp nat_cmp word w ≡ Less) (map (λ (r : WordRow). r.word) (rows_of_entries es))
below word [] all = tt
below word (e ∷ es) all = (all.0, below word es all.1)

-- they are in order, as the keys are
pub in_order : {Y : Type 0} (es : List (Vec ℕ Y × Vec ℕ Y)) → IsStrictlySortedBy (λ (j k : Vec ℕ Y). slice_cmp nat_cmp j.items k.items) (keys_of es) → AreInOrder (rows_of_entries es)
unfolding IsStrictlySortedBy
in_order [] sorted = tt
in_order (e ∷ es) sorted = (below e.0.items es sorted.0, in_order es sorted.1)
