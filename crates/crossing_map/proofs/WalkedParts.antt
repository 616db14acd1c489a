-- What a walk over one part of a space comes to next, and the walk as a list.
use Rattle.std.proofs.Common.{◌≡◌, ◌≢◌, ℕ, zero, suc, ◌+◌, ◌-◌, ◌<◌, ◌≤◌, inl, inr, ◌↔◌, Bool, true, false, [], ◌∷◌, refl, sym, ap, ◌∙◌, subst, arith, ⊎_elim, if◌then◌else◌}
use Rattle.std.specs.Prelude.{nat_le, nat_lt, ◌==◌, ⊤}
use Rattle.std.proofs.lemmas.Bool.{cases_lt, lt-ltb, le-ltb, le-leb, lt-leb}
use Rattle.std.proofs.lemmas.Bool.Decides.{nat_tests}
use Rattle.heap_words.specs.Decoded.{Decoded, NumberWord, PointerWord, HeaderWord, Malformed, decode}
use Rattle.space_map.specs.Spaces.{page_of, first_word}
use Rattle.heap_state.specs.Memory.Walk.{Met, AtEnd, Nothing, Reserved, Record, Broken, IsRead, ReadsAll, Walked, meets, met_word, next_place, walk, walked_at}
use Rattle.heap_state.proofs.Walks.Walking.{walk_end, reads_end}
use Rattle.crossing_map.specs.declared.walked.Walked.TheVariants as next
use Rattle.crossing_map.specs.Theorems.{BreaksIn}
use Rattle.crossing_map.specs.Walking.{next_at, next_in}

abbrev pub item : ℕ → ℕ → Walked
item at size = record { at = at; size = size }

-- ---- a walk goes on

-- a place that is reserved and a record that is met have words
abbrev HasWords : Met → Type 0
HasWords (Reserved size) = 0 < size
HasWords (Record size) = 0 < size
HasWords _ = ⊤

word_has : (d : Decoded) → HasWords (met_word d)
word_has (NumberWord n) = tt
word_has (PointerWord a) = tt
word_has Malformed = tt
word_has _ = omega arith

has_if : (b : Bool) (x y : Met) → (b ≡ true → HasWords x) → (b ≡ false → HasWords y) → HasWords (if b then x else y)
has_if true x y here there = here refl
has_if false x y here there = there refl

module _ (passes : ℕ → Bool) (reserved heap : ℕ → ℕ) (end : ℕ) where
  abbrev met : ℕ → Met
  met at = meets passes reserved heap end at

  abbrev after : ℕ → ℕ
  after at = next_place end at (met at)

  met_has : (at : ℕ) → HasWords (met at)
  met_has at =
      has_if (nat_lt at end) _ AtEnd
      (λ before. has_if (passes (page_of at)) Nothing _ (λ closed. tt)
      (λ open_page. has_if (reserved at == 0) _ (Reserved (reserved at))
      (λ free. has_if (heap at == 0) Nothing (met_word (decode (heap at))) (λ blank. tt) (λ word. word_has (decode (heap at))))
      (λ taken. grind (arith, nat_tests))))
      (λ behind. tt)

  goes_on : (at : ℕ) (m : Met) → HasWords m → at < end → at < next_place end at m
  goes_on at AtEnd has before = before
  goes_on at Broken has before = before
  goes_on at _ has before = omega arith

  pub later : (at : ℕ) → at < end → at < after at
  later at before = goes_on at (met at) (met_has at) before

  pub at_end : (at : ℕ) → end ≤ at → met at ≡ AtEnd
  at_end at behind = rw (le-ltb at end behind) refl

  -- ---- the number of turns doesn't matter where it is enough

  walk-turns : (m n at : ℕ) → end ≤ at + m → end ≤ at + n → walk m passes reserved heap end at ≡ walk n passes reserved heap end at
  unfolding walk
  walk-turns zero n at p q = sym (walk_end passes reserved heap end n at (omega arith))
  walk-turns (suc m) zero at p q = walk_end passes reserved heap end (suc m) at (omega arith)
  walk-turns (suc m) (suc n) at p q = ⊎_elim
      (λ (before : at < end). let on = later at before in ap (walked_at at (met at)) (walk-turns m n (after at) (omega arith) (omega arith)))
      (λ (behind : end ≤ at). walk_end passes reserved heap end (suc m) at behind ∙ sym (walk_end passes reserved heap end (suc n) at behind))
      (cases_lt at end)

  next_end : (n at : ℕ) → end ≤ at → next_in n passes reserved heap end at ≡ next.Ended
  unfolding next_in
  next_end zero at behind = refl
  next_end (suc n) at behind = rw (at_end at behind) refl

  next_in-turns : (m n at : ℕ) → end ≤ at + m → end ≤ at + n → next_in m passes reserved heap end at ≡ next_in n passes reserved heap end at
  unfolding next_in
  next_in-turns zero n at p q = sym (next_end n at (omega arith))
  next_in-turns (suc m) zero at p q = next_end (suc m) at (omega arith)
  next_in-turns (suc m) (suc n) at p q = ⊎_elim
      (λ (before : at < end). let on = later at before in ap (next_at end at (met at)) (next_in-turns m n (after at) (omega arith) (omega arith)))
      (λ (behind : end ≤ at). next_end (suc m) at behind ∙ sym (next_end (suc n) at behind))
      (cases_lt at end)

  -- one turn
  pub next_in-step : (at : ℕ) → at < end
      → next_in (end - at) passes reserved heap end at ≡ next_at end at (met at) (next_in (end - after at) passes reserved heap end (after at))
  unfolding next_in
  next_in-step at before =
      let turns : end - at ≡ suc (end - at - 1) = omega arith in
      let on = later at before in
      rw turns (ap (next_at end at (met at)) (next_in-turns (end - at - 1) (end - after at) (after at) (omega arith) (omega arith)))

  pub next_in-end : (at : ℕ) → end ≤ at → next_in (end - at) passes reserved heap end at ≡ next.Ended
  next_in-end at behind = next_end (end - at) at behind

  pub walk-end : (at : ℕ) → end ≤ at → walk (end - at) passes reserved heap end at ≡ []
  walk-end at behind = walk_end passes reserved heap end (end - at) at behind

  -- ---- what comes next is the first of the list

  -- the first record of the walk in so many turns, behind which it goes on
  abbrev pub IsFirst : ℕ → ℕ → ℕ → ℕ → Type 0
  IsFirst turns at a size =
      (walk turns passes reserved heap end at ≡ item a size ∷ walk (end - (a + size)) passes reserved heap end (a + size))
      × (at ≤ a) × (a < end) × (a + size ≤ end)

  record_first : (n at s a size : ℕ) → at < end → end ≤ at + suc n → 0 < s
      → (if nat_le (at + s) end then next.Record at s else next.Broken at) ≡ next.Record a size
      → (item at s ∷ walk n passes reserved heap end (at + s) ≡ item a size ∷ walk (end - (a + size)) passes reserved heap end (a + size))
      × (at ≤ a) × (a < end) × (a + size ≤ end)
  record_first n at s a size before enough has is = ⊎_elim
      (λ (over : end < at + s). absurd (let b : next.Broken at ≡ next.Record a size = rw (lt-leb (at + s) end over) at is in cc))
      (λ (within : at + s ≤ end).
      let r : next.Record at s ≡ next.Record a size = rw (le-leb (at + s) end within) at is in
      let same_at : at ≡ a = cc in
      let same_size : s ≡ size = cc in (
        subst (λ z. item at s ∷ walk n passes reserved heap end (at + s) ≡ item z size ∷ walk (end - (z + size)) passes reserved heap end (z + size)) same_at
            (subst (λ z. item at s ∷ walk n passes reserved heap end (at + s) ≡ item at z ∷ walk (end - (at + z)) passes reserved heap end (at + z)) same_size
            (ap (λ z. item at s ∷ z) (walk-turns n (end - (at + s)) (at + s) (omega arith) (omega arith)))),
        omega arith,
        omega arith,
        omega arith,
      ))
      (cases_lt end (at + s))

  first : (turns at a size : ℕ) → end ≤ at + turns → next_in turns passes reserved heap end at ≡ next.Record a size → IsFirst turns at a size
  unfolding next_in walk
  first zero at a size enough is = absurd (cc)
  first (suc n) at a size enough is = ⊎_elim
      (λ (before : at < end). first_by n at a size enough before (met at) (met_has at) (λ there enough i. first n there a size enough i) is)
      (λ (behind : end ≤ at). absurd (let e : next.Ended ≡ next.Record a size = sym (next_end (suc n) at behind) ∙ is in cc))
      (cases_lt at end)
    where
      first_by : (n at a size : ℕ) → end ≤ at + suc n → at < end → (m : Met) → HasWords m
          → ((there : ℕ) → end ≤ there + n → next_in n passes reserved heap end there ≡ next.Record a size → IsFirst n there a size)
          → next_at end at m (next_in n passes reserved heap end (next_place end at m)) ≡ next.Record a size
          → (walked_at at m (walk n passes reserved heap end (next_place end at m)) ≡ item a size ∷ walk (end - (a + size)) passes reserved heap end (a + size))
          × (at ≤ a) × (a < end) × (a + size ≤ end)
      first_by n at a size enough before AtEnd has rest is = absurd (cc)
      first_by n at a size enough before Nothing has rest is = let r = rest (first_word (page_of at + 1)) (omega arith) is in (r.0, omega (arith, r.1), r.2, r.3)
      first_by n at a size enough before (Reserved s) has rest is = let r = rest (at + s) (omega arith) is in (r.0, omega (arith, r.1), r.2, r.3)
      first_by n at a size enough before (Record s) has rest is = record_first n at s a size before enough has is
      first_by n at a size enough before Broken has rest is = absurd (cc)

  pub is_first : (at a size : ℕ) → next_in (end - at) passes reserved heap end at ≡ next.Record a size → IsFirst (end - at) at a size
  is_first at a size is = first (end - at) at a size (omega arith) is

  -- ---- the end

  ends_by : (n at : ℕ) (m : Met)
      → (next_in n passes reserved heap end (next_place end at m) ≡ next.Ended → (walk n passes reserved heap end (next_place end at m) ≡ []) × ReadsAll n passes reserved heap end (next_place end at m))
      → m ≢ AtEnd → next_at end at m (next_in n passes reserved heap end (next_place end at m)) ≡ next.Ended
      → (walked_at at m (walk n passes reserved heap end (next_place end at m)) ≡ []) × (IsRead end at m × ReadsAll n passes reserved heap end (next_place end at m))
  ends_by n at AtEnd rest inside is = absurd (inside refl)
  ends_by n at Nothing rest inside is = let r = rest is in (r.0, (tt, r.1))
  ends_by n at (Reserved s) rest inside is = let r = rest is in (r.0, (tt, r.1))
  ends_by n at (Record s) rest inside is = ⊎_elim
      (λ (over : end < at + s). absurd (let b : next.Broken at ≡ next.Ended = rw (lt-leb (at + s) end over) at is in cc))
      (λ (within : at + s ≤ end). absurd (let r : next.Record at s ≡ next.Ended = rw (le-leb (at + s) end within) at is in cc))
      (cases_lt end (at + s))
  ends_by n at Broken rest inside is = absurd (cc)

  word_met : (d : Decoded) → met_word d ≢ AtEnd
  word_met (HeaderWord _ _ _ _) e = cc
  word_met _ e = cc

  neither : (b : Bool) (x y : Met) → x ≢ AtEnd → y ≢ AtEnd → (if b then x else y) ≢ AtEnd
  neither true x y here there = here
  neither false x y here there = there

  not_yet : (at : ℕ) → at < end → met at ≢ AtEnd
  not_yet at before =
      rw (lt-ltb at end before) (neither (passes (page_of at)) Nothing _ (λ e. cc)
      (neither (reserved at == 0) _ (Reserved (reserved at))
      (neither (heap at == 0) Nothing (met_word (decode (heap at))) (λ e. cc) (word_met (decode (heap at))))
      (λ e. cc)))

  ends : (turns at : ℕ) → end ≤ at + turns → next_in turns passes reserved heap end at ≡ next.Ended
      → (walk turns passes reserved heap end at ≡ []) × ReadsAll turns passes reserved heap end at
  unfolding next_in walk ReadsAll
  ends zero at enough is = (refl, tt)
  ends (suc n) at enough is = ⊎_elim
      (λ (before : at < end).
      let on = later at before in
      ends_by n at (met at) (ends n (after at) (omega arith)) (not_yet at before) is)
      (λ (behind : end ≤ at). (walk_end passes reserved heap end (suc n) at behind, reads_end passes reserved heap end (suc n) at behind))
      (cases_lt at end)

  read_by : (n at : ℕ) (m : Met)
      → (walk n passes reserved heap end (next_place end at m) ≡ [] → ReadsAll n passes reserved heap end (next_place end at m) → next_in n passes reserved heap end (next_place end at m) ≡ next.Ended)
      → walked_at at m (walk n passes reserved heap end (next_place end at m)) ≡ [] → IsRead end at m × ReadsAll n passes reserved heap end (next_place end at m)
      → next_at end at m (next_in n passes reserved heap end (next_place end at m)) ≡ next.Ended
  read_by n at AtEnd rest none reads = refl
  read_by n at Nothing rest none reads = rest none reads.1
  read_by n at (Reserved s) rest none reads = rest none reads.1
  read_by n at (Record s) rest none reads = absurd (cc)
  read_by n at Broken rest none reads = absurd reads.0

  ended : (turns at : ℕ) → walk turns passes reserved heap end at ≡ [] → ReadsAll turns passes reserved heap end at
      → next_in turns passes reserved heap end at ≡ next.Ended
  unfolding next_in walk ReadsAll
  ended zero at none reads = refl
  ended (suc n) at none reads = read_by n at (met at) (ended n (after at)) none reads

  pub is_ended : (at : ℕ) → (next_in (end - at) passes reserved heap end at ≡ next.Ended)
      ↔ ((walk (end - at) passes reserved heap end at ≡ []) × ReadsAll (end - at) passes reserved heap end at)
  is_ended at = (ends (end - at) at (omega arith), λ z. ended (end - at) at z.0 z.1)

  -- ---- what is broken

  -- what stands at the place breaks a walk, and no record is walked before
  abbrev pub BreaksAt : ℕ → ℕ → ℕ → Type 0
  BreaksAt turns at a =
      (at ≤ a) × (a < end) × BreaksIn passes reserved heap end a × (walk turns passes reserved heap end at ≡ walk (end - a) passes reserved heap end a)

  walked_on : (n at : ℕ) (m : Met) → met at ≡ m
      → walk (suc n) passes reserved heap end at ≡ walked_at at m (walk n passes reserved heap end (next_place end at m))
  unfolding walk
  walked_on n at m e = ap (λ z. walked_at at z (walk n passes reserved heap end (next_place end at z))) e

  breaks : (turns at a : ℕ) → end ≤ at + turns → next_in turns passes reserved heap end at ≡ next.Broken a → BreaksAt turns at a
  unfolding next_in walk
  breaks zero at a enough is = absurd (cc)
  breaks (suc n) at a enough is = ⊎_elim
      (λ (before : at < end). breaks_by n at a enough before (met at) refl (met_has at) (λ there enough i. breaks n there a enough i) is)
      (λ (behind : end ≤ at). absurd (let e : next.Ended ≡ next.Broken a = sym (next_end (suc n) at behind) ∙ is in cc))
      (cases_lt at end)
    where
      here : (n at a : ℕ) → end ≤ at + suc n → at < end → next.Broken at ≡ next.Broken a → BreaksIn passes reserved heap end at → BreaksAt (suc n) at a
      here n at a enough before is broken =
          let same : at ≡ a = cc in (
            omega arith,
            omega arith,
            subst (λ z. BreaksIn passes reserved heap end z) same broken,
            subst (λ z. walk (suc n) passes reserved heap end at ≡ walk (end - z) passes reserved heap end z) same
                (walk-turns (suc n) (end - at) at enough (omega arith)),
          )

      breaks_by : (n at a : ℕ) → end ≤ at + suc n → at < end → (m : Met) → met at ≡ m → HasWords m
          → ((there : ℕ) → end ≤ there + n → next_in n passes reserved heap end there ≡ next.Broken a → BreaksAt n there a)
          → next_at end at m (next_in n passes reserved heap end (next_place end at m)) ≡ next.Broken a → BreaksAt (suc n) at a
      breaks_by n at a enough before AtEnd e has rest is = absurd (cc)
      breaks_by n at a enough before Nothing e has rest is =
          let r = rest (first_word (page_of at + 1)) (omega arith) is in
          (omega (arith, r.0), r.1, r.2, walked_on n at Nothing e ∙ r.3)
      breaks_by n at a enough before (Reserved s) e has rest is =
          let r = rest (at + s) (omega arith) is in
          (omega (arith, r.0), r.1, r.2, walked_on n at (Reserved s) e ∙ r.3)
      breaks_by n at a enough before (Record s) e has rest is = ⊎_elim
          (λ (over : end < at + s). here n at a enough before (rw (lt-leb (at + s) end over) at is) (inr (s, e, over)))
          (λ (within : at + s ≤ end). absurd (let r : next.Record at s ≡ next.Broken a = rw (le-leb (at + s) end within) at is in cc))
          (cases_lt end (at + s))
      breaks_by n at a enough before Broken e has rest is = here n at a enough before is (inl e)

  pub is_broken : (at a : ℕ) → next_in (end - at) passes reserved heap end at ≡ next.Broken a → BreaksAt (end - at) at a
  is_broken at a is = breaks (end - at) at a (omega arith) is
