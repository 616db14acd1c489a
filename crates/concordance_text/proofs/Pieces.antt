-- The pieces of a list that is split, each by what stands before and behind it.
use Rattle.std.proofs.Common.{◌≡◌, ℕ, zero, suc, ◌+◌, ◌<◌, Bool, true, false, cond, List, [], ◌∷◌, ◌++◌, Option, Some, None, length, take, drop, unwrap_or, take-append-drop, refl, sym, ap, ◌∙◌, subst, arith, count_by, true≢false}
use Rattle.std.specs.List.{AllByRecursion, onto_first, position_from, slice_split}
use Rattle.std.proofs.lemmas.List.{drop_all, drop_at, take_all, take_at}
use Rattle.std.proofs.lemmas.List.Splits.{length-slice_split}
use Rattle.std.proofs.lemmas.List.Sums.{sum_by-append}
use Rattle.concordance_text.specs.Runs.{BeginsWith, EndsWith}
use Rattle.concordance_text.proofs.LongWords.{found, none}

pub count_by-cons : {X : Type 0} (p : X → Bool) (x : X) (xs : List X) → count_by p (x ∷ xs) ≡ cond (p x) 1 0 + count_by p xs
count_by-cons p x xs = sum_by-append (λ y. cond (p y) 1 0) (x ∷ []) xs ∙ ap (λ n. n + count_by p xs) (omega arith)

pub count_by-append : {X : Type 0} (p : X → Bool) (xs ys : List X) → count_by p (xs ++ ys) ≡ count_by p xs + count_by p ys
count_by-append p xs ys = sum_by-append (λ y. cond (p y) 1 0) xs ys

pub count_none : {X : Type 0} (p : X → Bool) (xs : List X) → AllByRecursion (λ x. p x ≡ false) xs → count_by p xs ≡ 0
count_none p [] none = refl
count_none p (x ∷ xs) none = count_by-cons p x xs ∙ (rw none.0 (omega (arith, count_none p xs none.1)))

-- ---- ends

pub ends_tail : {X : Type 0} (p : X → Bool) (x : X) (xs : List X) → EndsWith p (x ∷ xs) → EndsWith p xs
ends_tail p x [] ends = tt
ends_tail p x (y ∷ ys) ends = ends

pub ends_cons : {X : Type 0} (p : X → Bool) (x : X) (xs : List X) → p x ≡ true → EndsWith p xs → EndsWith p (x ∷ xs)
ends_cons p x [] passes ends = passes
ends_cons p x (y ∷ ys) passes ends = ends

-- a list with an element that ends so has one that passes
pub some_passes : {X : Type 0} (p : X → Bool) (x : X) (xs : List X) → EndsWith p (x ∷ xs) → 0 < count_by p (x ∷ xs)
some_passes p x [] ends = let c = count_by-cons p x [] in let d : count_by p (x ∷ []) ≡ 1 + count_by p [] = subst (λ b. count_by p (x ∷ []) ≡ cond b 1 0 + count_by p []) ends c in omega arith
some_passes p x (y ∷ ys) ends = omega (arith, count_by-cons p x (y ∷ ys), some_passes p y ys ends)

-- ---- pieces

-- the element at a place
abbrev pub At : {X : Type 0} → List X → ℕ → X → Type 0
At [] k x = ⊥
At (y ∷ ys) zero x = x ≡ y
At (y ∷ ys) (suc k) x = At ys k x

-- a piece between elements that pass, after so many of them
pub record Piece {X : Type 0} (p : X → Bool) (xs part : List X) (k : ℕ) : Type 0 where
  pub front : List X
  pub back : List X
  pub is : xs ≡ front ++ (part ++ back)
  pub inside : AllByRecursion (λ x. p x ≡ false) part
  pub before : EndsWith p front
  pub behind : BeginsWith p back
  pub place : k ≡ count_by p front

none_before : {X : Type 0} (p : X → Bool) (front : List X) → EndsWith p front → 0 ≡ count_by p front → front ≡ []
none_before p [] ends none = refl
none_before p (x ∷ xs) ends none = absurd (omega (arith, some_passes p x xs ends))

some_before : {X : Type 0} (p : X → Bool) (x : X) (front : List X) (k : ℕ) → EndsWith p front → suc k ≡ count_by p front → EndsWith p (x ∷ front)
some_before p x [] k ends some = absurd (omega arith)
some_before p x (y ∷ ys) k ends some = ends

-- at an element that passes
after_it : {X : Type 0} (p : X → Bool) (x : X) (xs part : List X) (k : ℕ) → p x ≡ true → Piece p xs part k → Piece p (x ∷ xs) part (suc k)
after_it p x xs part k passes i = record {
  front = x ∷ i.front;
  back = i.back;
  is = ap (λ ys. x ∷ ys) i.is;
  inside = i.inside;
  before = ends_cons p x i.front passes i.before;
  behind = i.behind;
  place = let c : count_by p (x ∷ i.front) ≡ 1 + count_by p i.front = subst (λ b. count_by p (x ∷ i.front) ≡ cond b 1 0 + count_by p i.front) passes (count_by-cons p x i.front) in omega (arith, i.place);
}

-- at one that doesn't: it goes on with the first piece
onto_it : {X : Type 0} (p : X → Bool) (x : X) (xs part : List X) → p x ≡ false → Piece p xs part 0 → Piece p (x ∷ xs) (x ∷ part) 0
onto_it p x xs part fails i =
    let none : i.front ≡ [] = none_before p i.front i.before i.place in
    record { front = []; back = i.back; is = ap (λ ys. x ∷ ys) (i.is ∙ ap (λ f. f ++ (part ++ i.back)) none); inside = (fails, i.inside); before = tt; behind = i.behind; place = refl }

-- and leaves the others
past_it : {X : Type 0} (p : X → Bool) (x : X) (xs part : List X) (k : ℕ) → p x ≡ false → Piece p xs part (suc k) → Piece p (x ∷ xs) part (suc k)
past_it p x xs part k fails i = record {
  front = x ∷ i.front;
  back = i.back;
  is = ap (λ ys. x ∷ ys) i.is;
  inside = i.inside;
  before = some_before p x i.front k i.before i.place;
  behind = i.behind;
  place = let c : count_by p (x ∷ i.front) ≡ 0 + count_by p i.front = subst (λ b. count_by p (x ∷ i.front) ≡ cond b 1 0 + count_by p i.front) fails (count_by-cons p x i.front) in omega (arith, i.place);
}

onto_some : {X : Type 0} (p : X → Bool) (x : X) (xs part : List X) (qs : List (List X)) (k : ℕ) → p x ≡ false → 0 < length qs → ((piece : List X) (j : ℕ) → At qs j piece → Piece p xs piece j)
    → At (onto_first x qs) k part → Piece p (x ∷ xs) part k
onto_some p x xs part [] k fails some pieces at = absurd (omega arith)
onto_some p x xs part (q ∷ qs) zero fails some pieces at = subst (λ l. Piece p (x ∷ xs) l 0) (sym at) (onto_it p x xs q fails (pieces q 0 refl))
onto_some p x xs part (q ∷ qs) (suc k) fails some pieces at = past_it p x xs part k fails (pieces part (suc k) at)

after_one : {X : Type 0} (p : X → Bool) (x : X) (xs part : List X) (qs : List (List X)) (k : ℕ) → p x ≡ true → ((piece : List X) (j : ℕ) → At qs j piece → Piece p xs piece j) → At ([] ∷ qs) k part → Piece p (x ∷ xs) part k
after_one p x xs part qs zero passes pieces at = record { front = []; back = x ∷ xs; is = ap (λ (l : List _). l ++ (x ∷ xs)) (sym at); inside = rw at tt; before = tt; behind = passes; place = refl }
after_one p x xs part qs (suc k) passes pieces at = after_it p x xs part k passes (pieces part k at)

piece_by : {X : Type 0} (p : X → Bool) (x : X) (xs part : List X) (qs : List (List X)) (k : ℕ) (b : Bool) → p x ≡ b → 0 < length qs → ((piece : List X) (j : ℕ) → At qs j piece → Piece p xs piece j)
    → At (cond b ([] ∷ qs) (onto_first x qs)) k part → Piece p (x ∷ xs) part k
piece_by p x xs part qs k true is some pieces at = after_one p x xs part qs k is pieces at
piece_by p x xs part qs k false is some pieces at = onto_some p x xs part qs k is some pieces at

only_one : {X : Type 0} (p : X → Bool) (part : List X) (k : ℕ) → At ([] ∷ []) k part → Piece p [] part k
only_one p part zero at = record { front = []; back = []; is = ap (λ (l : List _). l ++ []) (sym at); inside = rw at tt; before = tt; behind = tt; place = refl }
only_one p part (suc k) at = absurd at

pub piece : {X : Type 0} (p : X → Bool) (xs part : List X) (k : ℕ) → At (slice_split p xs) k part → Piece p xs part k
piece p [] part k at = only_one p part k at
piece p (x ∷ xs) part k at = piece_by p x xs part (slice_split p xs) k (p x) refl (omega (arith, length-slice_split p xs)) (λ q j h. piece p xs q j h) at

-- ---- and back

at_onto : {X : Type 0} (x : X) (part : List X) (qs : List (List X)) (k : ℕ) → At qs (suc k) part → At (onto_first x qs) (suc k) part
at_onto x part [] k at = at
at_onto x part (q ∷ qs) k at = at

first_onto : {X : Type 0} (x : X) (part : List X) (qs : List (List X)) → At qs 0 part → At (onto_first x qs) 0 (x ∷ part)
first_onto x part [] at = absurd at
first_onto x part (q ∷ qs) at = ap (λ l. x ∷ l) at

first_piece : {X : Type 0} (p : X → Bool) (part back : List X) → AllByRecursion (λ x. p x ≡ false) part → BeginsWith p back → At (slice_split p (part ++ back)) 0 part
first_piece p [] [] inside behind = refl
first_piece p [] (y ∷ ys) inside behind = rw behind refl
first_piece p (x ∷ part) back inside behind = rw inside.0 (first_onto x part (slice_split p (part ++ back)) (first_piece p part back inside.1 behind))

at_positive : {X : Type 0} (x : X) (part : List X) (qs : List (List X)) (k j : ℕ) → 0 < k → k ≡ j → At qs k part → At (onto_first x qs) j part
at_positive x part qs zero j some e at = absurd (omega arith)
at_positive x part qs (suc k) j some e at = subst (λ i. At (onto_first x qs) i part) e (at_onto x part qs k at)

-- a piece behind one more element
at_later : {X : Type 0} (p : X → Bool) (x : X) (fs part : List X) (qs : List (List X)) (b : Bool) → p x ≡ b → EndsWith p (x ∷ fs) → At qs (count_by p fs) part → At (cond b ([] ∷ qs) (onto_first x qs)) (cond b 1 0 + count_by p fs) part
at_later p x fs part qs true is ends at = let e : suc (count_by p fs) ≡ 1 + count_by p fs = omega arith in subst (λ k. At ([] ∷ qs) k part) e at
at_later p x [] part qs false is ends at = absurd (true≢false (sym ends ∙ is))
at_later p x (f ∷ fs) part qs false is ends at = at_positive x part qs (count_by p (f ∷ fs)) (0 + count_by p (f ∷ fs)) (some_passes p f fs ends) (omega arith) at

at_front : {X : Type 0} (p : X → Bool) (front part back : List X) → EndsWith p front → AllByRecursion (λ x. p x ≡ false) part → BeginsWith p back → At (slice_split p (front ++ (part ++ back))) (count_by p front) part
at_front p [] part back ends inside behind = first_piece p part back inside behind
at_front p (x ∷ fs) part back ends inside behind =
    subst (λ k. At (slice_split p (x ∷ (fs ++ (part ++ back)))) k part) (sym (count_by-cons p x fs))
    (at_later p x fs part (slice_split p (fs ++ (part ++ back))) (p x) refl ends (at_front p fs part back (ends_tail p x fs ends) inside behind))

pub at_piece : {X : Type 0} (p : X → Bool) (xs part : List X) (k : ℕ) → Piece p xs part k → At (slice_split p xs) k part
at_piece p xs part k i = subst (λ j. At (slice_split p xs) j part) (sym i.place) (subst (λ l. At (slice_split p l) (count_by p i.front) part) (sym i.is) (at_front p i.front part i.back i.before i.inside i.behind))

-- ---- a list at the last element that passes, and at the first

pub record AtLast {X : Type 0} (p : X → Bool) (xs : List X) : Type 0 where
  pub front : List X
  pub rest : List X
  pub is : xs ≡ front ++ rest
  pub ends : EndsWith p front
  pub none : AllByRecursion (λ x. p x ≡ false) rest

last_by : {X : Type 0} (p : X → Bool) (x : X) (xs front rest : List X) (b : Bool) → p x ≡ b → xs ≡ front ++ rest → EndsWith p front → AllByRecursion (λ y. p y ≡ false) rest → AtLast p (x ∷ xs)
last_by p x xs (f ∷ fs) rest b is e ends none = record { front = x ∷ f ∷ fs; rest = rest; is = ap (λ l. x ∷ l) e; ends = ends; none = none }
last_by p x xs [] rest true is e ends none = record { front = x ∷ []; rest = rest; is = ap (λ l. x ∷ l) e; ends = is; none = none }
last_by p x xs [] rest false is e ends none = record { front = []; rest = x ∷ rest; is = ap (λ l. x ∷ l) e; ends = tt; none = (is, none) }

pub at_last : {X : Type 0} (p : X → Bool) (xs : List X) → AtLast p xs
at_last p [] = record { front = []; rest = []; is = refl; ends = tt; none = tt }
at_last p (x ∷ xs) = let l = at_last p xs in last_by p x xs l.front l.rest (p x) refl l.is l.ends l.none

-- cut at the first element that passes, or at the end
pub record CutsAtFirst {X : Type 0} (p : X → Bool) (xs front rest : List X) : Type 0 where
  pub is : xs ≡ front ++ rest
  pub none : AllByRecursion (λ x. p x ≡ false) front
  pub begins : BeginsWith p rest

pub record AtFirst {X : Type 0} (p : X → Bool) (xs : List X) : Type 0 where
  pub front : List X
  pub rest : List X
  pub cut : CutsAtFirst p xs front rest

first_by : {X : Type 0} (p : X → Bool) (x : X) (xs : List X) (b : Bool) → p x ≡ b → AtFirst p xs → AtFirst p (x ∷ xs)
first_by p x xs true is f = record { front = []; rest = x ∷ xs; cut = record { is = refl; none = tt; begins = is } }
first_by p x xs false is f = record { front = x ∷ f.front; rest = f.rest; cut = record { is = ap (λ l. x ∷ l) f.cut.is; none = (is, f.cut.none); begins = f.cut.begins } }

pub at_first : {X : Type 0} (p : X → Bool) (xs : List X) → AtFirst p xs
at_first p [] = record { front = []; rest = []; cut = record { is = refl; none = tt; begins = tt } }
at_first p (x ∷ xs) = first_by p x xs (p x) refl (at_first p xs)

cut_by : {X : Type 0} (p : X → Bool) (xs : List X) (o : Option ℕ) → position_from p 0 xs ≡ o → CutsAtFirst p xs (take (unwrap_or o (length xs)) xs) (drop (unwrap_or o (length xs)) xs)
cut_by p xs None is = record {
  is = sym (take-append-drop (length xs) xs);
  none = rw (take_all (length xs) xs (omega arith)) (none p xs 0 is);
  begins = rw (drop_all (length xs) xs (omega arith)) tt;
}
cut_by p xs (Some n) is =
    let f = found p xs 0 n is in
    let count : length f.before ≡ n = omega (arith, f.place_is) in
    record {
      is = sym (take-append-drop n xs);
      none = rw (ap (take n) f.is ∙ take_at f.before (f.item ∷ f.after) n count) f.misses;
      begins = rw (ap (drop n) f.is ∙ drop_at f.before (f.item ∷ f.after) n count) f.hits;
    }

-- at the place of that element, or at the length
pub cuts_at_first : {X : Type 0} (p : X → Bool) (xs front rest : List X) (end : ℕ) → end ≡ unwrap_or (position_from p 0 xs) (length xs) → front ≡ take end xs → rest ≡ drop end xs → CutsAtFirst p xs front rest
cuts_at_first p xs front rest end ends is_front is_rest = rw (is_front ∙ ap (λ k. take k xs) ends, is_rest ∙ ap (λ k. drop k xs) ends) (cut_by p xs (position_from p 0 xs) refl)
