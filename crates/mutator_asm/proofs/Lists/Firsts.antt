-- The first element of a list that passes a test.
use Rattle.std.proofs.Common.{◌≡◌, ℕ, zero, suc, ◌+◌, ◌||◌, Bool, true, false, cond, not, List, [], ◌∷◌, length, take, drop, ltb, Some, None, refl, sym, ap, ◌∙◌, one-add, ◌++◌, arith}
use Prim.Native.Nat.compare
use Rattle.std.specs.List.{position, position_or_len, before_first, after_first, list_any}
use Rattle.std.proofs.Math.Seq.{take-append_seam, drop-append-add}
use Rattle.std.proofs.lemmas.Bool.{or_parts, lt-ltb, le-ltb, ltb-false}
use Rattle.std.proofs.lemmas.List.{take_all}
use Rattle.std.proofs.lemmas.Option.{cond_some}

ltb_suc : (m n : ℕ) → ltb (suc m) (suc n) ≡ ltb m n
ltb_suc m n = rw compare.suc-suc refl

inside_cons : (b : Bool) (n m : ℕ) (c : Bool) → ltb n m ≡ c → ltb (cond (not b) (1 + n) 0) (suc m) ≡ (b || c)
inside_cons true n m c e = lt-ltb 0 (suc m) (omega arith)
inside_cons false n m c e = rw (one-add, ltb_suc n m) e

-- one passes exactly where the first is in the list
first_inside : {A : Type 0} (p : A → Bool) (xs : List A) → ltb (position_or_len p xs) (length xs) ≡ list_any p xs
first_inside p [] = refl
first_inside p (x ∷ xs) = inside_cons (p x) _ (length xs) (list_any p xs) (first_inside p xs)

none_is : (b : Bool) (n : ℕ) → cond b (Some n) None ≡ None → b ≡ false
none_is true n e = absurd cc
none_is false n e = refl

-- ---- what a search found

pub found_before : {A : Type 0} (p : A → Bool) (xs : List A) (i : ℕ) → position p xs ≡ Some i → take i xs ≡ before_first p xs
found_before p xs i e = ap (λ (n : ℕ). take n xs) (sym ((cond_some (ltb (position_or_len p xs) (length xs)) (position_or_len p xs) i e).1))

pub found_after : {A : Type 0} (p : A → Bool) (xs : List A) (i : ℕ) → position p xs ≡ Some i → drop (i + 1) xs ≡ after_first p xs
found_after p xs i e = ap (λ (n : ℕ). drop (n + 1) xs) (sym ((cond_some (ltb (position_or_len p xs) (length xs)) (position_or_len p xs) i e).1))

pub found_one : {A : Type 0} (p : A → Bool) (xs : List A) (i : ℕ) → position p xs ≡ Some i → list_any p xs ≡ true
found_one p xs i e = sym (first_inside p xs) ∙ (cond_some (ltb (position_or_len p xs) (length xs)) (position_or_len p xs) i e).0

pub found_none : {A : Type 0} (p : A → Bool) (xs : List A) → position p xs ≡ None → list_any p xs ≡ false
found_none p xs e = sym (first_inside p xs) ∙ none_is (ltb (position_or_len p xs) (length xs)) (position_or_len p xs) e

-- before the first of what is not in a list stands the whole list
pub whole_before : {A : Type 0} (p : A → Bool) (xs : List A) → list_any p xs ≡ false → before_first p xs ≡ xs
whole_before p xs none = take_all (position_or_len p xs) xs (ltb-false _ _ (first_inside p xs ∙ none))

pub found_whole : {A : Type 0} (p : A → Bool) (xs : List A) → position p xs ≡ None → xs ≡ before_first p xs
found_whole p xs e = sym (whole_before p xs (found_none p xs e))

-- ---- what stands before it

pub before_cons : {A : Type 0} (p : A → Bool) (x : A) (xs : List A) → before_first p (x ∷ xs) ≡ cond (p x) [] (x ∷ before_first p xs)
before_cons p x xs = elim (p x) as (λ b. take (cond (not b) (1 + position_or_len p xs) 0) (x ∷ xs) ≡ cond b [] (x ∷ before_first p xs)) [
  | true ↦ refl
  | false ↦ rw one-add refl
]

within_cons : {A : Type 0} (p : A → Bool) (b : Bool) (x : A) (xs whole : List A) (n : ℕ) → p x ≡ b → whole ≡ cond b [] (x ∷ before_first p xs) → (b || list_any p xs) ≡ true → ((m : ℕ) → list_any p xs ≡ true → ltb (length (before_first p xs)) m ≡ list_any p (take m xs)) → ltb (length whole) n ≡ list_any p (take n (x ∷ xs))
within_cons p true x xs whole zero h e any later = rw e refl
within_cons p true x xs whole (suc n) h e any later = rw (e, h) (lt-ltb 0 (suc n) (omega arith))
within_cons p false x xs whole zero h e any later = le-ltb (length whole) 0 (omega arith)
within_cons p false x xs whole (suc n) h e any later = rw (e, h, ltb_suc (length (before_first p xs)) n) (later n any)

-- it is among the first n exactly where fewer than n stand before it
pub first_within : {A : Type 0} (p : A → Bool) (xs : List A) (n : ℕ) → list_any p xs ≡ true → ltb (length (before_first p xs)) n ≡ list_any p (take n xs)
first_within p [] n any = absurd cc
first_within p (x ∷ xs) n any = within_cons p (p x) x xs (before_first p (x ∷ xs)) n refl (before_cons p x xs) any (λ m h. first_within p xs m h)

pub none_within : {A : Type 0} (p : A → Bool) (xs : List A) (n : ℕ) → list_any p xs ≡ false → list_any p (take n xs) ≡ false
none_within p [] zero e = refl
none_within p [] (suc n) e = refl
none_within p (x ∷ xs) zero e = refl
none_within p (x ∷ xs) (suc n) e = let parts = or_parts (p x) (list_any p xs) e in rw parts.0 (none_within p xs n parts.1)

-- ---- a list of which the first part fails the test, and then one passes

place_behind : {A : Type 0} (p : A → Bool) (xs : List A) (y : A) (ys : List A) → list_any p xs ≡ false → p y ≡ true → position_or_len p (xs ++ y ∷ ys) ≡ length xs
place_behind p [] y ys none e = rw e refl
place_behind p (x ∷ xs) y ys none e =
    let parts = or_parts (p x) (list_any p xs) none in
    rw (parts.0, place_behind p xs y ys parts.1 e) (one-add _)

pub before_behind : {A : Type 0} (p : A → Bool) (xs : List A) (y : A) (ys : List A) → list_any p xs ≡ false → p y ≡ true → before_first p (xs ++ y ∷ ys) ≡ xs
before_behind p xs y ys none e = ap (λ (n : ℕ). take n (xs ++ y ∷ ys)) (place_behind p xs y ys none e) ∙ take-append_seam xs (y ∷ ys)

pub after_behind : {A : Type 0} (p : A → Bool) (xs : List A) (y : A) (ys : List A) → list_any p xs ≡ false → p y ≡ true → after_first p (xs ++ y ∷ ys) ≡ ys
after_behind p xs y ys none e = ap (λ (n : ℕ). drop (n + 1) (xs ++ y ∷ ys)) (place_behind p xs y ys none e) ∙ drop-append-add xs (y ∷ ys) 1
