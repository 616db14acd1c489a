-- Lists that are read element by element, through a view of the elements.
use Rattle.std.proofs.Common.{◌≡◌, ℕ, ◌+◌, ◌<◌, Bool, true, false, List, [], ◌∷◌, ◌++◌, length, get_or, take, map, Option, Some, refl, sym, ap, ◌∙◌}
use Rattle.std.specs.List.{filter_map, list_all, flat_map}
use Rattle.std.specs.Prelude.{Result, OnOk}
use Rattle.std.specs.Result.{MatchResult}
use Rattle.std.specs.Iterator.{Drains, Yields}
use Rattle.std.proofs.lemmas.Iterator.{YieldsList}
use Rattle.std.proofs.lemmas.Iterator.Adapters.{fact_from_extend}
use Rattle.std.proofs.lemmas.Iterator.Consumers.{YieldsList-at}
use Rattle.std.proofs.lemmas.List.{map_more}
use Rattle.std.proofs.lemmas.List.Elements.{filter_map-append}
use Rattle.std.proofs.lemmas.List.Folds.{list_all-append, list_all-map, list_all_at}
use Rattle.std.proofs.lemmas.List.Concat.{flat_map-append}
use Rattle.std.proofs.lemmas.List.{append-nil}

-- one more element that is kept
pub kept_more : {X Y Z : Type 0} (f : Y → Option Z) (v : X → Y) (xs : List X) (i : ℕ) (d : X) (so_far : List Z) (z : Z) → i < length xs → so_far ≡ filter_map f (map v (take i xs)) → f (v (get_or xs i d)) ≡ Some z → so_far ++ z ∷ [] ≡ filter_map f (map v (take (i + 1) xs))
kept_more f v xs i d so_far z lt before here =
    let one : filter_map f (v (get_or xs i d) ∷ []) ≡ z ∷ [] = rw here refl in
    rw (map_more v xs i d lt, filter_map-append f (map v (take i xs)) (v (get_or xs i d) ∷ []), one, before) refl

-- one more element that passes
pub all_more : {X Y : Type 0} (p : Y → Bool) (v : X → Y) (xs : List X) (i : ℕ) (d : X) → i < length xs → list_all p (map v (take i xs)) ≡ true → p (v (get_or xs i d)) ≡ true → list_all p (map v (take (i + 1) xs)) ≡ true
all_more p v xs i d lt before here =
    rw (map_more v xs i d lt, list_all-append p (map v (take i xs)) (v (get_or xs i d) ∷ []), before, here) refl

-- one element that doesn't pass
pub not_all : {X Y : Type 0} (p : Y → Bool) (v : X → Y) (xs : List X) (i : ℕ) (d : X) → i < length xs → p (v (get_or xs i d)) ≡ false → list_all p (map v xs) ≡ false
not_all p v xs i d lt here = list_all-map p v xs ∙ list_all_at (λ x. p (v x)) xs i d lt here

-- one more element that gives some
pub gathered_more : {X Y Z : Type 0} (f : Y → List Z) (v : X → Y) (xs : List X) (i : ℕ) (d : X) (so_far more : List Z) → i < length xs → so_far ≡ flat_map f (map v (take i xs)) → more ≡ f (v (get_or xs i d)) → so_far ++ more ≡ flat_map f (map v (take (i + 1) xs))
gathered_more f v xs i d so_far more lt before here =
    rw (map_more v xs i d lt, flat_map-append f (map v (take i xs)) (v (get_or xs i d) ∷ []), before, here) (ap (λ ys. flat_map f (map v (take i xs)) ++ ys) (sym (append-nil (f (v (get_or xs i d))))))

-- a list that was empty, after `extend` by a chain s
pub map_from_extend : {T A C E : Type 0} {steps : T → Option A → T → Type 0} {v : A → C} {s : T} {all : List C} {P : List A → Type 0} {ys : List A} (r : Result (Unit {0}) E)
    → ((it : T) × (xs : List A) × (it ≡ s) × P xs × MatchResult r (λ _. Drains steps it xs) (λ _. (t : T) × Yields steps it xs t))
    → ((xs : List A) → P xs → ys ≡ xs) → YieldsList steps v s all → OnOk r (map v ys ≡ all)
map_from_extend {v = v} r ran is road = fact_from_extend v r ran (λ it at. YieldsList-at at road) (λ xs gives extended. ap (map v) (is xs extended) ∙ gives)
