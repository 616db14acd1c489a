-- The records that a loop has come past, with one record more.
use Rattle.std.proofs.Common.{◌≡◌, ℕ, ◌+◌, ◌<◌, List, [], ◌∷◌, ◌++◌, get_or, length, map, take, ap, ◌∙◌}
use Rattle.std.proofs.lemmas.List.{map-append, take_more}
use Rattle.heap_audit.specs.Walks.{walked}
use Rattle.heap_audit.specs.declared.walks.RecordAt.{RecordAt}

pub walked_more : (rs : List RecordAt) (i : ℕ) (z r : RecordAt) → i < length rs → get_or rs i z ≡ r → map walked (take (i + 1) rs) ≡ map walked (take i rs) ++ walked r ∷ []
walked_more rs i z r inside is = ap (map walked) (take_more rs i z inside ∙ ap (λ (x : RecordAt). take i rs ++ x ∷ []) is) ∙ map-append walked (take i rs) (r ∷ [])
