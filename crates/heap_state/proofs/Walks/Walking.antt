-- What a walk meets, where what stands at each place that it comes to is known.
use Rattle.std.proofs.Common.{◌≡◌, ◌≢◌, ℕ, zero, suc, ◌+◌, ◌-◌, ◌<◌, ◌≤◌, Bool, true, false, List, [], ◌∷◌, refl, sym, ap, ◌∙◌, arith, ⊎_elim, zero-add, add-zero}
use Rattle.std.specs.List.{All, Contains}
use Rattle.std.proofs.lemmas.Bool.{cases_eq, cases_lt, le-ltb}
use Rattle.std.proofs.lemmas.List.Elements.{All-nil, All-cons}
use Rattle.std.specs.Prelude.{if◌then◌else◌}
use Rattle.space_map.specs.Spaces.{page_of, first_word}
use Rattle.heap_state.specs.Functions.{sum_below}
use Rattle.heap_state.specs.Sums.{sum_of_sizes}
use Rattle.heap_state.specs.Memory.Walk.{Met, AtEnd, Nothing, Reserved, Record, Broken, meets, next_place, Walked, walked_at, walk, IsRead, ReadsAll}
use Rattle.heap_state.proofs.Puts.{sum_below-same}

-- what stands at a place where a walk meets this
abbrev pub MetAt : (end : ℕ) (size writer : ℕ → ℕ) → ℕ → Met → Type 0
MetAt end size writer at AtEnd = ⊥
MetAt end size writer at Nothing = (a : ℕ) → at ≤ a → a < first_word (page_of at + 1) → size a ≡ 0
MetAt end size writer at (Reserved z) = (0 < z) × (size at ≡ z) × (0 < writer at)
MetAt end size writer at (Record z) = (0 < z) × (size at ≡ z) × (writer at ≡ 0)
MetAt end size writer at Broken = ⊥

-- a part of a space, from a place to its end: `On` holds of each place that a walk comes to
pub record Part (passes : ℕ → Bool) (reserved heap : ℕ → ℕ) (from end : ℕ) (size writer : ℕ → ℕ) (On : ℕ → Type 0) : Type 0 where
  pub apart : (a b : ℕ) → 0 < size a → 0 < size b → a < b → a + size a ≤ b
  pub within : (a : ℕ) → 0 < size a → from ≤ a → a < end → a + size a ≤ end
  pub stands : (at : ℕ) → from ≤ at → at < end → On at → MetAt end size writer at (meets passes reserved heap end at)
  pub on : (at : ℕ) → from ≤ at → at < end → On at → On (next_place end at (meets passes reserved heap end at))

-- an item of the walk is a record that nobody writes
pub record IsItem (from end : ℕ) (size writer : ℕ → ℕ) (w : Walked) : Type 0 where
  pub inside : (from ≤ w.at) × (w.at < end)
  pub sized : (0 < w.size) × (size w.at ≡ w.size)
  pub written : writer w.at ≡ 0

abbrev pub item : ℕ → ℕ → Walked
item at size = record { at = at; size = size }

same_item : (a y b z : ℕ) → a ≡ b → y ≡ z → item a y ≡ item b z
same_item a y b z p q = λ i. record { at = p i; size = q i }

Contains-head : {X : Type 0} (x : X) (xs : List X) → Contains (x ∷ xs) x
Contains-head x xs = (0, omega arith, refl)

Contains-tail : {X : Type 0} (x y : X) (xs : List X) → Contains xs x → Contains (y ∷ xs) x
Contains-tail x y xs h = (suc h.0, omega (arith, h.1), h.2)

module _ (passes : ℕ → Bool) (reserved heap : ℕ → ℕ) (end : ℕ) where
  meets_end : (at : ℕ) → end ≤ at → meets passes reserved heap end at ≡ AtEnd
  meets_end at l = rw (le-ltb at end l) refl

  -- past the end a walk meets nothing
  pub walk_end : (turns at : ℕ) → end ≤ at → walk turns passes reserved heap end at ≡ []
  unfolding walk
  walk_end zero at l = refl
  walk_end (suc turns) at l = rw (meets_end at l) (walk_end turns end (omega arith))

  pub reads_end : (turns at : ℕ) → end ≤ at → ReadsAll turns passes reserved heap end at
  unfolding ReadsAll
  reads_end zero at l = tt
  reads_end (suc turns) at l = rw (meets_end at l) (tt, reads_end turns end (omega arith))

-- sums over an interval: its first term and those from z on, and those from a later place on
pub sum_below-from : (z m : ℕ) (f : ℕ → ℕ) → sum_below (m + z) f ≡ sum_below z f + sum_below m (λ x. f (z + x))
unfolding sum_below
sum_below-from z zero f = rw zero-add (sym (add-zero _))
sum_below-from z (suc m) f =
    let i : sum_below (m + z) f ≡ sum_below z f + sum_below m (λ x. f (z + x)) = sum_below-from z m f in
    let c : m + z ≡ z + m = omega arith in
    let e : suc m + z ≡ suc (m + z) = omega arith in
    rw e (let d : f (m + z) ≡ f (z + m) = ap f c in omega arith)

sum_below-first : (z : ℕ) (f : ℕ → ℕ) → 0 < z → f 0 ≤ sum_below z f
unfolding sum_below
sum_below-first zero f l = absurd (omega arith)
sum_below-first (suc zero) f l = omega arith
sum_below-first (suc (suc z)) f l = let i : f 0 ≤ sum_below (suc z) f = sum_below-first (suc z) f (omega arith) in omega arith

-- a sum is at least its first term and that from a later place on
pub sum_below-head : (f : ℕ → ℕ) (at z m : ℕ) → z ≤ m
    → sum_below m (λ x. f (at + x)) ≡ sum_below z (λ x. f (at + x)) + sum_below (m - z) (λ x. f (at + z + x))
sum_below-head f at z m l =
    let e : (m - z) + z ≡ m = omega arith in
    let s : sum_below ((m - z) + z) (λ x. f (at + x)) ≡ sum_below z (λ x. f (at + x)) + sum_below (m - z) (λ x. f (at + (z + x))) = sum_below-from z (m - z) (λ x. f (at + x)) in
    let t : sum_below (m - z) (λ x. f (at + z + x)) ≡ sum_below (m - z) (λ x. f (at + (z + x))) =
    sum_below-same (m - z) (λ x. f (at + z + x)) (λ x. f (at + (z + x))) (λ x k. let q : at + z + x ≡ at + (z + x) = omega arith in ap f q) in
    rw t (rw e at s)

module _ (passes : ℕ → Bool) (reserved heap : ℕ → ℕ) (from end : ℕ) (size writer : ℕ → ℕ) (On : ℕ → Type 0) (part : Part passes reserved heap from end size writer On) where
  abbrev items : ℕ → ℕ → List Walked
  items turns at = walk turns passes reserved heap end at

  -- ---- each record that is met stands there

  sound_step : (n at : ℕ) → from ≤ at → at < end → ((next : ℕ) → from ≤ next → On next → All (IsItem from end size writer) (items n next))
      → (m : Met) → MetAt end size writer at m → On (next_place end at m) → All (IsItem from end size writer) (walked_at at m (items n (next_place end at m)))
  sound_step n at f l rest AtEnd s o = absurd s
  sound_step n at f l rest Nothing s o = rest (first_word (page_of at + 1)) (omega arith) o
  sound_step n at f l rest (Reserved z) s o = rest (at + z) (omega arith) o
  sound_step n at f l rest (Record z) s o =
      All-cons (IsItem from end size writer) (item at z) (items n (at + z)) (record { inside = (f, l); sized = (s.0, s.1); written = s.2 }) (rest (at + z) (omega arith) o)
  sound_step n at f l rest Broken s o = absurd s

  pub sound : (turns at : ℕ) → from ≤ at → On at → All (IsItem from end size writer) (items turns at)
  unfolding walk
  sound zero at f o = All-nil (IsItem from end size writer)
  sound (suc n) at f o = ⊎_elim
      (λ (l : at < end). sound_step n at f l (sound n) (meets passes reserved heap end at) (part.stands at f l o) (part.on at f l o))
      (λ (l : end ≤ at). rw (meets_end passes reserved heap end at l, walk_end passes reserved heap end n end (omega arith)) (All-nil (IsItem from end size writer)))
      (cases_lt at end)

  -- ---- all that is met can be read

  reads_step : (n at : ℕ) → from ≤ at → at < end → ((next : ℕ) → from ≤ next → On next → ReadsAll n passes reserved heap end next)
      → (m : Met) → MetAt end size writer at m → On (next_place end at m) → IsRead end at m × ReadsAll n passes reserved heap end (next_place end at m)
  reads_step n at f l rest AtEnd s o = absurd s
  reads_step n at f l rest Nothing s o = (tt, rest (first_word (page_of at + 1)) (omega arith) o)
  reads_step n at f l rest (Reserved z) s o = (tt, rest (at + z) (omega arith) o)
  reads_step n at f l rest (Record z) s o = (let w = part.within at (omega (arith, s)) f l in omega (arith, w, s), rest (at + z) (omega arith) o)
  reads_step n at f l rest Broken s o = absurd s

  pub reads_all : (turns at : ℕ) → from ≤ at → On at → ReadsAll turns passes reserved heap end at
  unfolding ReadsAll
  reads_all zero at f o = tt
  reads_all (suc n) at f o = ⊎_elim
      (λ (l : at < end). reads_step n at f l (reads_all n) (meets passes reserved heap end at) (part.stands at f l o) (part.on at f l o))
      (λ (l : end ≤ at). rw (meets_end passes reserved heap end at l) (tt, reads_end passes reserved heap end n end (omega arith)))
      (cases_lt at end)

  -- ---- each record that stands there and nobody writes is met

  complete_step : (n at b : ℕ) → from ≤ at → at < end → at ≤ b → b < end → 0 < size b → writer b ≡ 0
      → ((next : ℕ) → from ≤ next → On next → at < next → next ≤ b → Contains (items n next) (item b (size b)))
      → (m : Met) → MetAt end size writer at m → On (next_place end at m) → Contains (walked_at at m (items n (next_place end at m))) (item b (size b))
  complete_step n at b f l a e st w rest AtEnd s o = absurd s
  complete_step n at b f l a e st w rest Nothing s o = rest (first_word (page_of at + 1)) (omega arith) o (omega arith)
      (⊎_elim (λ (c : b < first_word (page_of at + 1)). absurd (let z = s b a c in omega arith)) (λ (c : first_word (page_of at + 1) ≤ b). c) (cases_lt b (first_word (page_of at + 1))))
  complete_step n at b f l a e st w rest (Reserved z) s o = ⊎_elim
      (λ (same : at ≡ b). absurd (let q : writer at ≡ writer b = ap writer same in omega (arith, s.2)))
      (λ (d : at ≢ b). let q = part.apart at b (omega (arith, s)) st (omega arith) in rest (at + z) (omega arith) o (omega (arith, s)) (omega (arith, s)))
      (cases_eq at b)
  complete_step n at b f l a e st w rest (Record z) s o = ⊎_elim
      (λ (same : at ≡ b).
      let q : z ≡ size b = sym (s.1) ∙ ap size same in
      let e : item b (size b) ≡ item at z = same_item b (size b) at z (sym same) (sym q) in
      rw e (Contains-head (item at z) (items n (at + z))))
      (λ (d : at ≢ b). let q = part.apart at b (omega (arith, s)) st (omega arith) in
      Contains-tail (item b (size b)) (item at z) (items n (at + z)) (rest (at + z) (omega arith) o (omega (arith, s)) (omega (arith, s))))
      (cases_eq at b)
  complete_step n at b f l a e st w rest Broken s o = absurd s

  pub complete : (turns at b : ℕ) → from ≤ at → On at → end ≤ at + turns → at ≤ b → b < end → 0 < size b → writer b ≡ 0 → Contains (items turns at) (item b (size b))
  unfolding walk
  complete zero at b f o t a e st w = absurd (omega arith)
  complete (suc n) at b f o t a e st w =
      let l : at < end = omega arith in
      complete_step n at b f l a e st w (λ next fn on ln nb. complete n next b fn on (omega arith) nb e st w) (meets passes reserved heap end at) (part.stands at f l o) (part.on at f l o)

  -- ---- the sizes of those that are counted are at most the sum of a function that has them

  module _ (counts : Walked → Bool) (owes : ℕ → ℕ) (has : (w : Walked) → IsItem from end size writer w → counts w ≡ true → owes w.at ≡ w.size) where
    -- a walk from a later place
    later : (n at next m : ℕ) → at ≤ next → end ≤ at + m → (end ≤ next + (at + m - next) → sum_of_sizes counts (items n next) ≤ sum_below (at + m - next) (λ x. owes (next + x)))
        → sum_of_sizes counts (items n next) ≤ sum_below m (λ x. owes (at + x))
    later n at next m a t h = ⊎_elim
        (λ (l : at + m < next). rw (walk_end passes reserved heap end n next (omega arith)) (omega arith))
        (λ (l : next ≤ at + m).
        let e : at + m - next ≡ m - (next - at) = omega arith in
        let d : at + (next - at) ≡ next = omega arith in
        let s = sum_below-head owes at (next - at) m (omega arith) in
        let k = h (omega arith) in
        let t : sum_below (at + m - next) (λ x. owes (next + x)) ≡ sum_below (m - (next - at)) (λ x. owes (at + (next - at) + x)) = rw (e, d) refl in
        omega arith)
        (cases_lt (at + m) next)

    counted : (w : Walked) → IsItem from end size writer w → (if counts w then w.size else 0) ≤ owes w.at
    counted w is = by_count (counts w) (has w is)
      where
        by_count : (b : Bool) → (b ≡ true → owes w.at ≡ w.size) → (if b then w.size else 0) ≤ owes w.at
        by_count true h = omega (arith, h refl)
        by_count false h = omega arith

    abbrev total : List Walked → ℕ
    total = sum_of_sizes counts

    sum_step : (n at m : ℕ) → from ≤ at → at < end → end ≤ at + m
        → ((next k : ℕ) → from ≤ next → On next → end ≤ next + k → total (items n next) ≤ sum_below k (λ x. owes (next + x)))
        → (met : Met) → MetAt end size writer at met → On (next_place end at met)
        → total (walked_at at met (items n (next_place end at met))) ≤ sum_below m (λ x. owes (at + x))
    sum_step n at m f l t rest AtEnd s o = absurd s
    sum_step n at m f l t rest Nothing s o = later n at (first_word (page_of at + 1)) m (omega arith) t (rest (first_word (page_of at + 1)) (at + m - first_word (page_of at + 1)) (omega arith) o)
    sum_step n at m f l t rest (Reserved z) s o = later n at (at + z) m (omega arith) t (rest (at + z) (at + m - (at + z)) (omega arith) o)
    sum_step n at m f l t rest (Record z) s o =
        let w = part.within at (omega (arith, s)) f l in
        let h = sum_below-head owes at z m (omega (arith, s)) in
        let first : owes (at + 0) ≤ sum_below z (λ x. owes (at + x)) = sum_below-first z (λ x. owes (at + x)) s.0 in
        let same : owes (at + 0) ≡ owes at = ap owes (add-zero at) in
        let own : (if counts (item at z) then z else 0) ≤ owes at = counted (item at z) (record { inside = (f, l); sized = (s.0, s.1); written = s.2 }) in
        let others = rest (at + z) (m - z) (omega arith) o (omega (arith, s)) in
        omega arith
    sum_step n at m f l t rest Broken s o = absurd s

    pub sum_sound : (turns at m : ℕ) → from ≤ at → On at → end ≤ at + m → total (items turns at) ≤ sum_below m (λ x. owes (at + x))
    unfolding walk
    sum_sound zero at m f o t = omega arith
    sum_sound (suc n) at m f o t = ⊎_elim
        (λ (l : at < end). sum_step n at m f l t (λ next k fn on ends. sum_sound n next k fn on ends) (meets passes reserved heap end at) (part.stands at f l o) (part.on at f l o))
        (λ (l : end ≤ at). rw (meets_end passes reserved heap end at l, walk_end passes reserved heap end n end (omega arith)) (omega arith))
        (cases_lt at end)
