-- What passes a test: what an `if` gives, three at once, and the elements of a list.
use Rattle.std.proofs.Common.{◌≡◌, ◌+◌, Bool, true, cond, ◌&&◌, List, [], ◌∷◌, ◌++◌, length, count_by, refl, ◌∙◌, arith}
use Rattle.std.specs.List.{AllPass, list_all}
use Rattle.std.proofs.lemmas.Bool.{and_parts, cond_both}
use Rattle.std.proofs.lemmas.List.Elements.{All-head, All-tail}
use Rattle.std.proofs.lemmas.List.Sums.{sum_by-append, sum_by-cons, AllPass-from_list_all, list_all-from_AllPass}

-- an `if` passes what both of its branches pass
pub if_passes : {A : Type 0} (p : A → Bool) (b : Bool) (x y : A) → p x ≡ true → p y ≡ true → p (cond b x y) ≡ true
if_passes p b x y h k = cond_both b x y (λ z. p z ≡ true) (λ e. h) (λ e. k)

pub three_parts : (a b c : Bool) → (a && b && c) ≡ true → (a ≡ true) × (b ≡ true) × (c ≡ true)
three_parts a b c h =
    let parts = and_parts (a && b) c h in
    let first = and_parts a b parts.0 in
    (first.0, first.1, parts.1)

-- the elements that pass a test pass each weaker one
pub all_weaker : {A : Type 0} (p q : A → Bool) → ((x : A) → p x ≡ true → q x ≡ true) → (xs : List A) → list_all p xs ≡ true → list_all q xs ≡ true
all_weaker p q h xs e = list_all-from_AllPass q xs (λ k x lt. h _ (AllPass-from_list_all p xs e k x lt))

-- ---- how many pass

pub count_by-cons : {A : Type 0} (p : A → Bool) (x : A) (xs : List A) → count_by p (x ∷ xs) ≡ cond (p x) 1 0 + count_by p xs
count_by-cons p x xs = sum_by-cons (λ y. cond (p y) 1 0) x xs

pub count_by-append : {A : Type 0} (p : A → Bool) (xs ys : List A) → count_by p (xs ++ ys) ≡ count_by p xs + count_by p ys
count_by-append p xs ys = sum_by-append (λ y. cond (p y) 1 0) xs ys

pub count_by_all : {A : Type 0} (p : A → Bool) (xs : List A) → AllPass p xs → count_by p xs ≡ length xs
count_by_all p [] all = refl
count_by_all p (x ∷ xs) all = count_by-cons p x xs ∙ rw (All-head (λ y. p y ≡ true) x xs all, count_by_all p xs (All-tail (λ y. p y ≡ true) x xs all)) (omega arith)
