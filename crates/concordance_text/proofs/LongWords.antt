-- The first of a list that passes a test, and words that are too long.
use Rattle.std.proofs.Common.{◌≡◌, ℕ, ◌+◌, List, [], ◌∷◌, ◌++◌, length, Bool, true, false, cond, Some, None, Option, refl, ap, ◌∙◌, arith, ◌||◌}
use borrow.Author.Tests.{lt-ltb}
use Rattle.std.specs.Prelude.{filter}
use Rattle.std.specs.List.{AllByRecursion, list_any, position_from}
use Rattle.concordance_text.specs.Words.{IsFirstTooLong, has_long_word, is_some_run, is_too_long, lines_of}

-- the first that passes, counted from i on
pub record Finds {X : Type 0} (p : X → Bool) (xs : List X) (i place : ℕ) : Type 0 where
  pub before : List X
  pub item : X
  pub after : List X
  pub is : xs ≡ before ++ item ∷ after
  pub place_is : place ≡ i + length before
  pub misses : AllByRecursion (λ x. p x ≡ false) before
  pub hits : p item ≡ true

one_more : {X : Type 0} (p : X → Bool) (x : X) (xs : List X) (i place : ℕ) → p x ≡ false → Finds p xs (i + 1) place → Finds p (x ∷ xs) i place
one_more p x xs i place miss f = record {
  before = x ∷ f.before;
  item = f.item;
  after = f.after;
  is = ap (λ ys. x ∷ ys) f.is;
  place_is = omega (arith, f.place_is);
  misses = (miss, f.misses);
  hits = f.hits;
}

found_by : {X : Type 0} (p : X → Bool) (x : X) (xs : List X) (i place : ℕ) (b : Bool) (rest : Option ℕ) → p x ≡ b → cond b (Some i) rest ≡ Some place → (rest ≡ Some place → Finds p xs (i + 1) place) → Finds p (x ∷ xs) i place
found_by p x xs i place true rest hit e later = record { before = []; item = x; after = xs; is = refl; place_is = (let s : i ≡ place = cc in omega arith); misses = tt; hits = hit }
found_by p x xs i place false rest miss e later = one_more p x xs i place miss (later e)

pub found : {X : Type 0} (p : X → Bool) (xs : List X) (i place : ℕ) → position_from p i xs ≡ Some place → Finds p xs i place
found p [] i place e = absurd (let h : None ≡ Some place = e in cc)
found p (x ∷ xs) i place e = found_by p x xs i place (p x) (position_from p (i + 1) xs) refl e (λ h. found p xs (i + 1) place h)

-- and no other
pub only : {X : Type 0} (p : X → Bool) (before : List X) (item : X) (after : List X) (i : ℕ) → AllByRecursion (λ x. p x ≡ false) before → p item ≡ true → position_from p i (before ++ item ∷ after) ≡ Some (i + length before)
only p [] item after i misses hits = rw hits (ap Some (omega arith))
only p (x ∷ before) item after i misses hits = rw misses.0 (only p before item after (i + 1) misses.1 hits ∙ ap Some (omega arith))

none_by : {X : Type 0} (p : X → Bool) (x : X) (xs : List X) (i : ℕ) (b : Bool) (rest : Option ℕ) → p x ≡ b → cond b (Some i) rest ≡ None → (rest ≡ None → AllByRecursion (λ y. p y ≡ false) xs) → (p x ≡ false) × AllByRecursion (λ y. p y ≡ false) xs
none_by p x xs i true rest hit e later = absurd cc
none_by p x xs i false rest miss e later = (miss, later e)

pub none : {X : Type 0} (p : X → Bool) (xs : List X) (i : ℕ) → position_from p i xs ≡ None → AllByRecursion (λ x. p x ≡ false) xs
none p [] i e = tt
none p (x ∷ xs) i e = none_by p x xs i (p x) (position_from p (i + 1) xs) refl e (λ h. none p xs (i + 1) h)

-- a run of no letters isn't too long
pub long_runs : (runs : List (List ℕ)) → list_any is_too_long runs ≡ list_any is_too_long (filter is_some_run runs)
long_runs [] = refl
long_runs ([] ∷ runs) = long_runs runs
long_runs ((x ∷ xs) ∷ runs) = rw (lt-ltb 0 (length (x ∷ xs)) (omega arith)) (ap (λ b. is_too_long (x ∷ xs) || b) (long_runs runs))

-- ---- the first line that has a long word

pub number_found : (text : List ℕ) (place line : ℕ) → position_from has_long_word 0 (lines_of text) ≡ Some place → place + 1 ≡ line → IsFirstTooLong text line
number_found text place line e is =
    let f = found has_long_word (lines_of text) 0 place e in
    record { before = f.before; line = f.item; after = f.after; lines = f.is; number_is = omega (arith, f.place_is); short = f.misses; long = f.hits }

pub number_only : (text : List ℕ) (line : ℕ) → (f : IsFirstTooLong text line) → position_from has_long_word 0 (lines_of text) ≡ Some (length f.before)
number_only text line f = rw f.lines (only has_long_word f.before f.line f.after 0 f.short f.long ∙ ap Some (omega arith))
