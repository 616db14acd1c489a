-- Values that are stored in the record that was made last.
use Rattle.std.proofs.Common.{◌≡◌, ℕ, ◌+◌, ◌-◌, List, [], ◌∷◌, ◌++◌, length, Some, slice_set, refl, sym, ap, ◌∙◌, arith}
use Rattle.plain_state.specs.declared.value.Value.{Value}
use Rattle.plain_state.specs.State.{Record}
use Rattle.plain_state.specs.Writing.{with_value}
use Rattle.concordance.specs.Notes.Making.{StoresIn}
use Rattle.concordance.proofs.Lists.Serials.{at_behind}

set_last : (xs : List Record) (r new : Record) → slice_set (xs ++ r ∷ []) (length xs) new ≡ xs ++ new ∷ []
set_last [] r new = refl
set_last (x ∷ xs) r new = ap (λ (rs : List Record). x ∷ rs) (set_last xs r new)

pub stores_last : (records : List Record) (r : Record) (x : ℕ) (v : Value) (later : List Record) → StoresIn (records ++ r ∷ []) (length records + 1) x v later → later ≡ records ++ with_value r x v ∷ []
stores_last records r x v later stores =
    let there : Some stores.old ≡ Some r = sym stores.there ∙ at_behind records (r ∷ []) 0 in
    let same : stores.old ≡ r = cc in
    let e : length records + 1 - 1 ≡ length records = omega arith in
    stores.later_is ∙ (ap (λ (q : Record). slice_set (records ++ r ∷ []) (length records + 1 - 1) (with_value q x v)) same
    ∙ (ap (λ (i : ℕ). slice_set (records ++ r ∷ []) i (with_value r x v)) e ∙ set_last records r (with_value r x v)))
