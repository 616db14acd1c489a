-- Who has made the calls of a history, if all numbers are there.
use Rattle.std.proofs.Common.{◌≡◌, ◌≢◌, ℕ, ◌<◌, Bool, true, false, List, [], ◌∷◌, length, refl, sym, ◌∙◌, ap, subst, arith, eqb, ne_eqb, ◌||◌}
use Rattle.std.proofs.lemmas.Bool.{eqb-true}
use Rattle.std.specs.List.{AllByRecursion, Contains, IsDistinct, list_any}
use Rattle.std.proofs.lemmas.Map.Steps.{length-le_from_distinct_below}
use Rattle.std.proofs.lemmas.Map.Views.{Contains-from_any}
use Rattle.std.proofs.lemmas.Option.{slice_get_within}
use Rattle.plain_state.specs.State.{Plain}
use Rattle.gc_worker.specs.declared.calls.entry.Entry.{Entry}
use Rattle.gc_worker.specs.declared.calls.entry.Entry.TheVariants.{Exchanged, Made, Emptied}
use Rattle.gc_worker.specs.History.Legal.{IsLegal, after_call}
use Rattle.gc_worker.specs.Plain.Answer.{with_emptied}
use Rattle.gc_worker.specs.Steps.Turned.{Answers}
use Rattle.gc_worker.proofs.Between.Others.{answers_leave_the_others}
use Rattle.ael_threads.specs.Histories.{AreBy, Each, IsOnce}

-- ---- numbers that are all below one, as many as there are

distinct : (xs : List ℕ) → IsOnce xs → IsDistinct eqb xs
unfolding IsDistinct
distinct [] h = tt
distinct (x ∷ xs) h = (others xs h.0, distinct xs h.1)
  where
    others : (ys : List ℕ) → Each (λ y. y ≢ x) ys → AllByRecursion (λ y. eqb x y ≡ false) ys
    others [] k = tt
    others (y ∷ ys) k = (ne_eqb x y (λ e. k.0 (sym e)), others ys k.1)

not_any : (x : ℕ) (xs : List ℕ) → list_any (eqb x) xs ≡ false → AllByRecursion (λ y. eqb x y ≡ false) xs
not_any x [] e = tt
not_any x (y ∷ ys) e = by_first (eqb x y) refl (not_any x ys)
  where
    by_first : (b : Bool) → eqb x y ≡ b → (list_any (eqb x) ys ≡ false → AllByRecursion (λ z. eqb x z ≡ false) ys) → AllByRecursion (λ z. eqb x z ≡ false) (y ∷ ys)
    by_first true is rest = absurd (let f : true ≡ false = sym (ap (λ (b : Bool). b || list_any (eqb x) ys) is) ∙ e in cc)
    by_first false is rest = (is, rest (sym (ap (λ (b : Bool). b || list_any (eqb x) ys) is) ∙ e))

all_below : (n : ℕ) (xs : List ℕ) → Each (λ x. x < n) xs → (q : ℕ) → list_any (eqb q) xs ≡ true → q < n
all_below n [] h q e = absurd (cc)
all_below n (x ∷ xs) h q e = by_first (eqb q x) refl (all_below n xs h.1 q)
  where
    by_first : (b : Bool) → eqb q x ≡ b → (list_any (eqb q) xs ≡ true → q < n) → q < n
    by_first true is rest = subst (λ (z : ℕ). z < n) (sym (eqb-true q x is)) h.0
    by_first false is rest = rest (sym (ap (λ (b : Bool). b || list_any (eqb q) xs) is) ∙ e)

more_distinct : (j : ℕ) (xs : List ℕ) → list_any (eqb j) xs ≡ false → IsOnce xs → IsDistinct eqb (j ∷ xs)
unfolding IsDistinct
more_distinct j xs new once = (not_any j xs new, distinct xs once)

pub each_is_there : (n : ℕ) (xs : List ℕ) → IsOnce xs → Each (λ x. x < n) xs → length xs ≡ n → (j : ℕ) → j < n → Contains xs j
each_is_there n xs once below many j small = by_any (list_any (eqb j) xs) refl
  where
    by_any : (b : Bool) → list_any (eqb j) xs ≡ b → Contains xs j
    by_any true is = Contains-from_any (λ x y e. eqb-true x y e) j xs is
    by_any false is =
        let fits = length-le_from_distinct_below (j ∷ xs) n (more_distinct j xs is once) (all_below n (j ∷ xs) (small, below)) in
        absurd (omega (arith, fits, many))

-- ---- a legal history

pub are_by : (numbers : List ℕ) (p : Plain) (log : List Entry) → ((j : ℕ) → j < length p.mutators → Contains numbers j) → IsLegal p log → AreBy numbers log
are_by numbers p [] all legal = tt
are_by numbers p (Made c ∷ es) all legal =
    let same : length (after_call p c).mutators ≡ length p.mutators = (answers_leave_the_others [] p c.by (Answers c.task c.did)).as_many in (
      all c.by (slice_get_within p.mutators c.by legal.0.mutator legal.0.is),
      are_by numbers (after_call p c) es (λ j below. all j (omega (arith, below, same))) legal.1,
    )
are_by numbers p (Exchanged by asked ∷ es) all legal = are_by numbers p es all legal
are_by numbers p (Emptied cells ∷ es) all legal = are_by numbers (with_emptied p cells) es all legal
