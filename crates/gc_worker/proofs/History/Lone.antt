-- With one mutator the heap is full right after a flip, or in the last epoch; so a heap with room beside what is live is never full.
use Rattle.std.proofs.Common.{◌≡◌, ℕ, ◌+◌, ◌-◌, ◌^◌, ◌<◌, ◌≤◌, ◌⊎◌, inl, inr, Bool, true, false, cond, List, [], ◌∷◌, ◌++◌, length, Option, Some, None, slice_get, refl, ap, sym, subst, ◌∙◌, arith, ⊎_elim}
use Rattle.std.specs.List.{list_all}
use Rattle.std.specs.Option.{option_and_then, option_map}
use Rattle.std.proofs.lemmas.Bool.{eq-eqb}
use Rattle.std.proofs.lemmas.Option.{slice_get_within}
use Rattle.plain_state.specs.declared.end.End.TheVariants.{HeapFull}
use Rattle.plain_state.specs.Reachable.{IsLive}
use Rattle.plain_state.specs.State.{Mutator, Plain}
use Rattle.plain_state.proofs.Elements.{slice_get-set_same}
use Rattle.mutator_asm.specs.declared.instr.Instr.{Instr}
use Rattle.plain_heap.specs.declared.mark.Mark.{Mark}
use Rattle.plain_heap.specs.declared.mark.Mark.TheVariants.{Step, Flip, Full, Traced}
use Rattle.plain_heap.specs.Order.{Story, end_of, ended_for_want, story_after, story_marked}
use Rattle.plain_heap.specs.Tracing.{is_traced}
use Rattle.plain_heap.proofs.Reaching.Emptying.{emptied_of_lost_cells}
use Rattle.gc_worker.proofs.History.TracedLive.{live_emptied}
use Rattle.plain_heap.specs.Step.{asked_by, asked_if}
use Rattle.plain_heap.proofs.States.SameMutators.{plain_count}
use Rattle.plain_heap.proofs.Orders.Stories.{story_after-append}
use Rattle.heap_state.specs.Functions.{sum_below}
use Rattle.gc_worker.specs.History.Needs.{EachFullIs, EachMayCome, EndsWithFlip, HasNoFull, IsEnoughForOne, being_made, flips_by, flips_in, made_after, made_after_mark, made_since, first_story, since_by, since_in}
use Rattle.gc_worker.specs.Plain.Marks.{EachActs}
use Rattle.gc_worker.proofs.History.Needs.{at_full, may_come_at}

-- ---- the last mark before

module _ (code : List (List Instr)) (turns : ℕ) where
  -- who has no end is there
  there : (p : Plain) (m : ℕ) → end_of p m ≡ Some None → m < length p.mutators
  there p m is = by_found (slice_get p.mutators m) refl is
    where
      by_found : (o : Option Mutator) → slice_get p.mutators m ≡ o → option_map (λ k. k.end) o ≡ Some None → m < length p.mutators
      by_found None e none = absurd (let f = none in cc)
      by_found (Some k) e none = slice_get_within p.mutators m k e

  -- who finds the heap full has an end
  full_ends : (p : Plain) (m asked room live : ℕ) → asked_by code turns p m ≡ Some asked → end_of p m ≡ Some None → end_of (ended_for_want code turns p m asked room live) m ≡ Some None → ⊥
  unfolding ended_for_want
  full_ends p m asked room live asks is none = by_found (slice_get p.mutators m) refl is
    where
      by_found : (o : Option Mutator) → slice_get p.mutators m ≡ o → option_map (λ k. k.end) o ≡ Some None → ⊥
      by_found None e f = absurd (let g = f in cc)
      by_found (Some k) e f =
          let ended : end_of (ended_for_want code turns p m asked room live) m ≡ Some (Some (HeapFull asked room live)) =
          rw (asks, eq-eqb asked asked refl, e, slice_get-set_same p.mutators m (record k { end = Some (HeapFull asked room live) }) (slice_get_within p.mutators m k e)) refl in
          let g = sym none ∙ ended in cc

  -- there is one mutator, whatever marks come
  abbrev IsLone : Story → Type 0
  IsLone s = (marks : List Mark) → length (story_after code turns s marks).now.mutators ≡ 1

  -- it is the one that a mark is of
  same : (p q : Plain) (j m : ℕ) → length p.mutators ≡ 1 → length q.mutators ≡ 1 → end_of p j ≡ Some None → end_of q m ≡ Some None → j ≡ m
  same p q j m one other is later = let a = there p j is in let b = there q m later in omega (arith, a, b, one, other)

  -- a list that ends with a flip does so behind another mark
  further : (mark : Mark) (marks : List Mark) → EndsWithFlip marks → EndsWithFlip (mark ∷ marks)
  further mark marks ends =
      record { before = mark ∷ ends.before; asked = ends.asked; traced = ends.traced; is = ap (λ (rest : List Mark). mark ∷ rest) ends.is; all = ends.all }

  -- tracing ends no mutator
  traced_ends : (s : Story) (m : ℕ) → end_of (story_marked code turns s Traced).now m ≡ end_of s.now m
  traced_ends s m = ap (λ (ms : List Mutator). option_map (λ k. k.end) (slice_get ms m)) (emptied_of_lost_cells s.flip s.now).mutators

  module _ (m asked room live : ℕ) (rest : List Mark) where
    abbrev full : Mark
    full = Full m asked room live

    -- who finds the heap full has no end where the epoch's marks of tracing begin
    acts_behind : (s : Story) (traced : List Mark) → list_all is_traced traced ≡ true → EachActs code turns s (traced ++ full ∷ rest) → end_of s.now m ≡ Some None
    acts_behind s [] all each = each.0.0
    acts_behind s (Traced ∷ traced) all each = sym (traced_ends s m) ∙ acts_behind (story_marked code turns s Traced) traced all each.1
    acts_behind s _ all each = absurd (let never = all in cc)

    -- the mark before, but for those of tracing, is a flip, if one came since the last step
    last_is : (s : Story) (since : ℕ → Bool) (mark : Mark) (traced : List Mark) → list_all is_traced traced ≡ true → IsLone s → EachActs code turns s (mark ∷ traced ++ full ∷ rest)
        → since_by since mark m ≡ true → ((list_all is_traced (mark ∷ traced) ≡ true) × (since m ≡ true)) ⊎ EndsWithFlip (mark ∷ traced)
    last_is s since (Flip pages) traced all one each is = inr (record { before = []; asked = pages; traced = traced; is = refl; all = all })
    last_is s since Traced traced all one each is = inl (all, is)
    last_is s since (Step j) traced all one each is =
        let next = story_marked code turns s (Step j) in
        let own = same s.now next.now j m (one []) (one (Step j ∷ [])) each.0 (acts_behind next traced all each.1) in
        absurd (let none : since_by since (Step j) m ≡ false = ap (λ (b : Bool). cond b false (since m)) (eq-eqb m j (sym own)) in let f = sym none ∙ is in cc)
    last_is s since (Full j pages left words) traced all one each is =
        let next = story_marked code turns s (Full j pages left words) in
        let later = acts_behind next traced all each.1 in
        let own = same s.now next.now j m (one []) (one (Full j pages left words ∷ [])) each.0.0 later in
        absurd (full_ends s.now j pages left words each.0.1 each.0.0 (subst (λ (i : ℕ). end_of next.now i ≡ Some None) (sym own) later))

    last_flips : (s : Story) (since : ℕ → Bool) (front : List Mark) → IsLone s → EachActs code turns s (front ++ full ∷ rest) → since_in since front m ≡ true
        → ((list_all is_traced front ≡ true) × (since m ≡ true)) ⊎ EndsWithFlip front
    last_flips s since [] one each is = inl (refl, is)
    last_flips s since (mark ∷ front) one each is = ⊎_elim
        (λ (none : (list_all is_traced front ≡ true) × (since_by since mark m ≡ true)). last_is s since mark front none.0 one each none.1)
        (λ (ends : EndsWithFlip front). inr (further mark front ends))
        (last_flips (story_marked code turns s mark) (since_by since mark) front (λ marks. one (mark ∷ marks)) each.1 is)

    pub full_follows_flip : (s : Story) (front : List Mark) → IsLone s → EachActs code turns s (front ++ full ∷ rest) → EachMayCome (λ j. false) 0 (front ++ full ∷ rest)
        → flips_in 0 front < 2 ^ 32 - 1 → EndsWithFlip front
    full_follows_flip s front one acts may few = ⊎_elim
        (λ (since : since_in (λ j. false) front m ≡ true). ⊎_elim
        (λ (none : (list_all is_traced front ≡ true) × (false ≡ true)). absurd (let e = none.1 in cc))
        (λ (ends : EndsWithFlip front). ends)
        (last_flips s (λ j. false) front one acts since))
        (λ (last : flips_in 0 front ≡ 2 ^ 32 - 1). absurd (omega (arith, few, last)))
        (may_come_at (λ j. false) 0 front rest full may)

-- ---- what is live then

-- what is made in two orders
made_after-append : (code : List (List Instr)) (turns : ℕ) (s : Story) (made : ℕ) (xs ys : List Mark)
    → made_after code turns s made (xs ++ ys) ≡ made_after code turns (story_after code turns s xs) (made_after code turns s made xs) ys
made_after-append code turns s made [] ys = refl
made_after-append code turns s made (mark ∷ xs) ys = made_after-append code turns (story_marked code turns s mark) (made_after_mark code turns s.now made mark) xs ys

-- who asks for pages is there
asker : (code : List (List Instr)) (turns : ℕ) (p : Plain) (m asked : ℕ) → asked_by code turns p m ≡ Some asked → m < length p.mutators
unfolding asked_by
asker code turns p m asked is = by_found (slice_get p.mutators m) refl is
  where
    by_found : (o : Option Mutator) → slice_get p.mutators m ≡ o → option_and_then (λ k. asked_if code turns m k k.end) o ≡ Some asked → m < length p.mutators
    by_found None e none = absurd (let f = none in cc)
    by_found (Some k) e some = slice_get_within p.mutators m k e

-- a flip more or none at each mark
flips_grow : (flips : ℕ) (front rest : List Mark) → flips_in flips front ≤ flips_in flips (front ++ rest)
flips_grow flips [] rest = no_fewer flips rest
  where
    no_fewer : (flips : ℕ) (rest : List Mark) → flips ≤ flips_in flips rest
    no_fewer flips [] = omega arith
    no_fewer flips (Step m ∷ rest) = no_fewer flips rest
    no_fewer flips (Flip asked ∷ rest) = let more = no_fewer (flips + 1) rest in omega (arith, more)
    no_fewer flips (Full m asked room live ∷ rest) = no_fewer flips rest
    no_fewer flips (Traced ∷ rest) = no_fewer flips rest
flips_grow flips (mark ∷ front) rest = flips_grow (flips_by flips mark) front rest

-- a lone mutator has none beside it
none_beside : (code : List (List Instr)) (turns : ℕ) (p : Plain) (m : ℕ) → length p.mutators ≡ 1 → m < 1 → being_made code turns p m ≡ 0
unfolding sum_below
none_beside code turns p m one small = let e : m ≡ 0 = omega (arith, small) in rw (one, e) refl

module _ (limit least : ℕ) (code : List (List Instr)) (turns : ℕ) (one : length code ≡ 1) where
  abbrev after : List Mark → Story
  after front = story_after code turns (first_story code) front

  -- what is live, and what was made, where the marks of tracing begin is so behind them
  traced_live : (s : Story) (traced : List Mark) → list_all is_traced traced ≡ true → (live : ℕ) → IsLive s.now live → IsLive (story_after code turns s traced).now live
  traced_live s [] all live is = is
  traced_live s (Traced ∷ traced) all live is = traced_live (story_marked code turns s Traced) traced all live (live_emptied s.flip s.now live is)
  traced_live s _ all live is = absurd (let never = all in cc)

  traced_made : (s : Story) (made : ℕ) (traced : List Mark) → list_all is_traced traced ≡ true → made_after code turns s made traced ≡ made
  traced_made s made [] all = refl
  traced_made s made (Traced ∷ traced) all = traced_made (story_marked code turns s Traced) made traced all
  traced_made s made _ all = absurd (let never = all in cc)

  traced_flip : (s : Story) (traced : List Mark) → list_all is_traced traced ≡ true → (story_after code turns s traced).flip ≡ s.flip
  traced_flip s [] all = refl
  traced_flip s (Traced ∷ traced) all = traced_flip (story_marked code turns s Traced) traced all
  traced_flip s _ all = absurd (let never = all in cc)

  -- right after a flip what was live then is live now, and no record was made since
  after_flip : (front : List Mark) → EndsWithFlip front → ((live : ℕ) → IsLive (after front).flip live → IsLive (after front).now live) × (made_since code turns front ≡ 0)
  after_flip front ends =
      let at = after ends.before in
      let flipped : Story = record { flip = at.now; now = at.now } in
      let same : after front ≡ story_after code turns flipped ends.traced = ap after ends.is ∙ story_after-append code turns (first_story code) ends.before (Flip ends.asked ∷ ends.traced) in
      let none : made_since code turns front ≡ 0 =
      ap (made_since code turns) ends.is ∙ made_after-append code turns (first_story code) 0 ends.before (Flip ends.asked ∷ ends.traced) ∙ traced_made flipped 0 ends.traced ends.all in
      let flip : (after front).flip ≡ at.now = ap (λ (s : Story). s.flip) same ∙ traced_flip flipped ends.traced ends.all in
      (λ live is. subst (λ (s : Story). IsLive s.now live) (sym same) (traced_live flipped ends.traced ends.all live (subst (λ (p : Plain). IsLive p live) flip is)), none)

  module _ (order : List Mark) (acts : EachActs code turns (first_story code) order) (may : EachMayCome (λ j. false) 0 order) where
    pub flip_before : (front rest : List Mark) (m asked room live : ℕ) → order ≡ front ++ Full m asked room live ∷ rest → flips_in 0 front < 2 ^ 32 - 1 → EndsWithFlip front
    flip_before front rest m asked room live is few =
        full_follows_flip code turns m asked room live rest (first_story code) front (λ marks. plain_count code turns marks ∙ one)
        (subst (EachActs code turns (first_story code)) is acts) (subst (EachMayCome (λ j. false) 0) is may) few

    pub lone_is_never_full : EachFullIs limit least code turns (first_story code) 0 0 order → flips_in 0 order < 2 ^ 32 - 1 → IsEnoughForOne limit code turns order → HasNoFull order
    lone_is_never_full each few enough front rest m asked room live is =
        let marks = Full m asked room live ∷ rest in
        let grow = flips_grow 0 front marks in
        let total = ap (flips_in 0) is in
        let ends = flip_before front rest m asked room live (sym is) (omega (arith, few, grow, total)) in
        let full = at_full limit least code turns (first_story code) 0 0 front rest m asked room live (subst (EachFullIs limit least code turns (first_story code) 0 0) (sym is) each) in
        let at = after_flip front ends in
        let many : length (after front).now.mutators ≡ 1 = plain_count code turns front ∙ one in
        let inside = asker code turns (after front).now m asked full.asked_is in
        let beside = none_beside code turns (after front).now m many (omega (arith, inside, many)) in
        let fits = enough front marks m is asked live full.asked_is (at.0 live full.live_is) in
        let filled = full.filled in
        let claims = full.for_records in
        let short = full.short in
        let none = at.1 in
        let grown = full.grown in
        omega (arith, fits, filled, claims, short, beside, none, grown, few, grow, total)
