-- The elements of lists that are joined, mapped and filtered.
use Rattle.std.proofs.Common.{◌≡◌, ◌≢◌, ◌⊎◌, inl, inr, ℕ, zero, suc, ◌+◌, ◌<◌, ◌≤◌, Bool, true, false, cond, not, ◌||◌, List, [], ◌∷◌, ◌++◌, map, Some, slice_get, refl, ap, sym, subst, ◌∙◌, ⊎_elim, arith}
use Rattle.std.specs.List.{filter, flat_map, list_any, range_with_len}
use Rattle.std.proofs.lemmas.Bool.{cases_eq}
use Rattle.std.proofs.lemmas.Option.{same_Some}

-- y is an element of the list
abbrev pub In : {X : Type 0} → X → List X → Type 0
In y [] = ⊥
In y (x ∷ xs) = (x ≡ y) ⊎ In y xs

pub In-append_left : {X : Type 0} (y : X) (xs ys : List X) → In y xs → In y (xs ++ ys)
In-append_left y [] ys is = absurd is
In-append_left y (x ∷ xs) ys (inl e) = inl e
In-append_left y (x ∷ xs) ys (inr is) = inr (In-append_left y xs ys is)

pub In-append_right : {X : Type 0} (y : X) (xs ys : List X) → In y ys → In y (xs ++ ys)
In-append_right y [] ys is = is
In-append_right y (x ∷ xs) ys is = inr (In-append_right y xs ys is)

pub In-append_cases : {X : Type 0} (y : X) (xs ys : List X) → In y (xs ++ ys) → In y xs ⊎ In y ys
In-append_cases y [] ys is = inr is
In-append_cases y (x ∷ xs) ys (inl e) = inl (inl e)
In-append_cases y (x ∷ xs) ys (inr is) = by_rest (In-append_cases y xs ys is)
  where
    by_rest : In y xs ⊎ In y ys → In y (x ∷ xs) ⊎ In y ys
    by_rest (inl left) = inl (inr left)
    by_rest (inr right) = inr right

-- ---- places

pub In-from_slice_get : {X : Type 0} (y : X) (xs : List X) (k : ℕ) → slice_get xs k ≡ Some y → In y xs
In-from_slice_get y [] k is = absurd (cc)
In-from_slice_get y (x ∷ xs) zero is = inl (same_Some x y is)
In-from_slice_get y (x ∷ xs) (suc k) is = inr (In-from_slice_get y xs k is)

pub slice_get-In : {X : Type 0} (y : X) (xs : List X) → In y xs → (k : ℕ) × (slice_get xs k ≡ Some y)
slice_get-In y [] is = absurd is
slice_get-In y (x ∷ xs) (inl e) = (0, ap Some e)
slice_get-In y (x ∷ xs) (inr is) = let rest = slice_get-In y xs is in (suc rest.0, rest.1)

-- ---- ranges

pub In-range : (y a n : ℕ) → a ≤ y → y < a + n → In y (range_with_len a n)
In-range y a zero low high = absurd (omega arith)
In-range y a (suc n) low high = ⊎_elim
    (λ (first : a ≡ y). inl first)
    (λ (later : a ≢ y). inr (In-range y (a + 1) n (omega arith) (omega arith)))
    (cases_eq a y)

-- ---- what is made of each element

pub In-map : {X Y : Type 0} (f : X → Y) (x : X) (xs : List X) → In x xs → In (f x) (map f xs)
In-map f x [] is = absurd is
In-map f x (z ∷ xs) (inl e) = inl (ap f e)
In-map f x (z ∷ xs) (inr is) = inr (In-map f x xs is)

pub In-map_from : {X Y : Type 0} (f : X → Y) (y : Y) (xs : List X) → In y (map f xs) → (x : X) × In x xs × (f x ≡ y)
In-map_from f y [] is = absurd is
In-map_from f y (x ∷ xs) (inl e) = (x, inl refl, e)
In-map_from f y (x ∷ xs) (inr is) = let rest = In-map_from f y xs is in (rest.0, inr rest.1, rest.2)

pub In-flat_map : {X Y : Type 0} (f : X → List Y) (x : X) (y : Y) (xs : List X) → In x xs → In y (f x) → In y (flat_map f xs)
In-flat_map f x y [] is in_one = absurd is
In-flat_map f x y (z ∷ xs) (inl e) in_one = In-append_left y (f z) (flat_map f xs) (subst (λ w. In y (f w)) (sym e) in_one)
In-flat_map f x y (z ∷ xs) (inr is) in_one = In-append_right y (f z) (flat_map f xs) (In-flat_map f x y xs is in_one)

pub In-flat_map_from : {X Y : Type 0} (f : X → List Y) (y : Y) (xs : List X) → In y (flat_map f xs) → (x : X) × In x xs × In y (f x)
In-flat_map_from f y [] is = absurd is
In-flat_map_from f y (x ∷ xs) is = ⊎_elim
    (λ (first : In y (f x)). (x, inl refl, first))
    (λ (later : In y (flat_map f xs)). let rest = In-flat_map_from f y xs later in (rest.0, inr rest.1, rest.2))
    (In-append_cases y (f x) (flat_map f xs) is)

-- ---- those that pass a test

pub In-filter : {X : Type 0} (p : X → Bool) (y : X) (xs : List X) → In y xs → p y ≡ true → In y (filter p xs)
In-filter p y [] is passes = absurd is
In-filter p y (x ∷ xs) (inl e) passes = rw (ap p e ∙ passes) (inl e)
In-filter p y (x ∷ xs) (inr is) passes = by_first (p x) (In-filter p y xs is passes)
  where
    by_first : (b : Bool) → In y (filter p xs) → In y (cond b (x ∷ filter p xs) (filter p xs))
    by_first true later = inr later
    by_first false later = later

pub In-filter_from : {X : Type 0} (p : X → Bool) (y : X) (xs : List X) → In y (filter p xs) → In y xs × (p y ≡ true)
In-filter_from p y [] is = absurd is
In-filter_from p y (x ∷ xs) is = by_first (p x) refl is (In-filter_from p y xs)
  where
    by_first : (b : Bool) → p x ≡ b → In y (cond b (x ∷ filter p xs) (filter p xs)) → (In y (filter p xs) → In y xs × (p y ≡ true)) → In y (x ∷ xs) × (p y ≡ true)
    by_first true passes (inl e) rest = (inl e, ap p (sym e) ∙ passes)
    by_first true passes (inr later) rest = (inr (rest later).0, (rest later).1)
    by_first false fails later rest = (inr (rest later).0, (rest later).1)

-- if none passes, each fails
pub none-passes : {X : Type 0} (p : X → Bool) (xs : List X) → filter p xs ≡ [] → (y : X) → In y xs → p y ≡ false
none-passes p xs none y is = by_test (p y) refl
  where
    by_test : (b : Bool) → p y ≡ b → p y ≡ false
    by_test true passes = absurd (subst (In y) none (In-filter p y xs is passes))
    by_test false fails = fails

-- and the others are all
pub all-fail : {X : Type 0} (p : X → Bool) (xs : List X) → filter p xs ≡ [] → filter (λ x. not (p x)) xs ≡ xs
all-fail p [] none = refl
all-fail p (x ∷ xs) none = by_first (p x) none (all-fail p xs)
  where
    by_first : (b : Bool) → cond b (x ∷ filter p xs) (filter p xs) ≡ [] → (filter p xs ≡ [] → filter (λ y. not (p y)) xs ≡ xs)
        → cond (not b) (x ∷ filter (λ y. not (p y)) xs) (filter (λ y. not (p y)) xs) ≡ x ∷ xs
    by_first true some rest = absurd (cc)
    by_first false none rest = ap (λ ys. x ∷ ys) (rest none)

-- ---- a test of some element

pub list_any-In : {X : Type 0} (p : X → Bool) (y : X) (xs : List X) → In y xs → p y ≡ true → list_any p xs ≡ true
list_any-In p y [] is passes = absurd is
list_any-In p y (x ∷ xs) (inl e) passes = rw (ap p e ∙ passes) refl
list_any-In p y (x ∷ xs) (inr is) passes = by_first (p x) (list_any-In p y xs is passes)
  where
    by_first : (b : Bool) → list_any p xs ≡ true → (b || list_any p xs) ≡ true
    by_first true later = refl
    by_first false later = later

pub In-from_list_any : {X : Type 0} (p : X → Bool) (xs : List X) → list_any p xs ≡ true → (y : X) × In y xs × (p y ≡ true)
In-from_list_any p [] is = absurd (cc)
In-from_list_any {X} p (x ∷ xs) is = by_first (p x) refl is (In-from_list_any p xs)
  where
    by_first : (b : Bool) → p x ≡ b → (b || list_any p xs) ≡ true → (list_any p xs ≡ true → (y : X) × In y xs × (p y ≡ true)) → (y : X) × In y (x ∷ xs) × (p y ≡ true)
    by_first true passes found rest = (x, inl refl, passes)
    by_first false fails found rest = ((rest found).0, inr (rest found).1, (rest found).2)
