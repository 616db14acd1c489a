-- A whole run does to the story what its order does, and each of its marks acts.
use Rattle.std.proofs.Common.{◌≡◌, ℕ, zero, suc, ◌+◌, Bool, true, false, List, [], ◌∷◌, length, Some, slice_get, get_or, refl, sym, subst, ◌∙◌, arith}
use Rattle.std.specs.Prelude.{map, take}
use Rattle.std.specs.Option.{option_to_list}
use Rattle.std.proofs.lemmas.List.{get_or-take, length-take-le}
use Rattle.std.proofs.lemmas.Option.{slice_get_within}
use Rattle.plain_state.specs.declared.end.End.{End}
use Rattle.plain_state.specs.declared.end.End.TheVariants as ends
use Rattle.plain_state.specs.State as plain
use Rattle.plain_heap.specs.Order.{Story, story_after}
use Rattle.plain_heap.specs.Print.{Seen, plain_seen}
use Rattle.plain_heap.proofs.Orders.EachMark.{EachMark-append}
use Rattle.plain_heap.proofs.Orders.Stories.{story_after-append}
use Rattle.gc_worker.specs.Laws.Between.{WhatStandsIsSo}
use Rattle.gc_worker.specs.Workers.Held.{Held}
use Rattle.gc_worker.specs.Laws.Step.{Heap, WorkersStand, nobody, held_at}
use Rattle.gc_worker.specs.Laws.Stories.{StoryStands}
use Rattle.gc_worker.specs.declared.steps.stepped.Stepped.{Stepped}
use Rattle.gc_worker.specs.declared.steps.stepped.Stepped.TheVariants.{Idle, Moved, Effect, Flipped, Traced, Ended}
use Rattle.gc_worker.specs.Plain.Marks.{MarkActs, EachActs, mark_of}
use Rattle.gc_core.specs.Core.{CoreState}
use Rattle.gc_core.specs.Event.{core_after, event_of}
use Rattle.gc_core.specs.Law.{IsSteady, IsTold, EventsKeep, story_by}
use Rattle.gc_core.specs.Readers.{seen_of}
use Rattle.gc_core.specs.Run.{Ran, run_from, all_ended, EachEvent, Unless}
use Rattle.gc_core.specs.Whole.{IsFull}

-- ---- marks

-- the mark of an end acts
end_acts : (s : CoreState) (w : ℕ) (story : Story) (after : Heap) (m : ℕ) (why : End) → IsTold s w story after (Ended m why) → EachActs s.code s.turns story (option_to_list (mark_of (Ended m why)))
end_acts s w story after m (ends.HeapFull asked room live) t = ((t.1, t.3.0, t.3.1.short), tt)
end_acts s w story after m _ t = (t.1, tt)

-- the mark of whatever is told acts
told_acts : (s : CoreState) (w : ℕ) (story : Story) (after : Heap) (told : Stepped) → IsTold s w story after told → EachActs s.code s.turns story (option_to_list (mark_of told))
told_acts s w story after Idle t = tt
told_acts s w story after Moved t = tt
told_acts s w story after Traced t = (tt, tt)
told_acts s w story after (Flipped asked) t = (tt, tt)
told_acts s w story after (Effect m) t = (t.1, tt)
told_acts s w story after (Ended m why) t = end_acts s w story after m why t

-- and where it says that the heap is full it is
told_full : (s : CoreState) (w : ℕ) (story : Story) → IsTold s w story (event_of s w).after (event_of s w).told → IsFull s w
told_full s w story t asked room live e = (subst (IsTold s w story (event_of s w).after) e t).3.1

-- ---- runs

module _ (keep : EventsKeep) where
  -- what a run comes to that begins with a story
  pub record IsRunOf (s : CoreState) (story : Story) (r : Ran) : Type 0 where
    pub steady : IsSteady r.last
    pub stands : StoryStands r.last.heap (story_after s.code s.turns story r.order).now (story_after s.code s.turns story r.order).flip

  run_as : (schedule : ℕ → ℕ) (at n : ℕ) (s : CoreState) (story : Story) (b : Bool) → all_ended s ≡ b → IsSteady s → StoryStands s.heap story.now story.flip
      → IsRunOf (core_after s (schedule at)) (story_by s story (event_of s (schedule at)).told) (run_from schedule (at + 1) n (core_after s (schedule at)))
      → IsRunOf s story (run_from schedule at (suc n) s)
  unfolding run_from
  run_as schedule at n s story true is steady stands rest = rw is (record { steady = steady; stands = stands })
  run_as schedule at n s story false is steady stands rest = rw is (record {
    steady = rest.steady;
    stands = rw (story_after-append s.code s.turns story (option_to_list (mark_of (event_of s (schedule at)).told)) (run_from schedule (at + 1) n (core_after s (schedule at))).order) rest.stands;
  })

  pub run_law : (schedule : ℕ → ℕ) (at n : ℕ) (s : CoreState) (story : Story) → IsSteady s → StoryStands s.heap story.now story.flip → IsRunOf s story (run_from schedule at n s)
  unfolding run_from
  run_law schedule at zero s story steady stands = record { steady = steady; stands = stands }
  run_law schedule at (suc n) s story steady stands =
      let k = keep s (schedule at) story steady stands in
      run_as schedule at n s story (all_ended s) refl steady stands
      (run_law schedule (at + 1) n (core_after s (schedule at)) (story_by s story (event_of s (schedule at)).told) k.steady k.stands)

  -- ---- each mark acts

  acts_as : (schedule : ℕ → ℕ) (at n : ℕ) (s : CoreState) (story : Story) (b : Bool) → all_ended s ≡ b
      → EachActs s.code s.turns story (option_to_list (mark_of (event_of s (schedule at)).told))
      → EachActs s.code s.turns (story_by s story (event_of s (schedule at)).told) (run_from schedule (at + 1) n (core_after s (schedule at))).order
      → EachActs s.code s.turns story (run_from schedule at (suc n) s).order
  unfolding run_from
  acts_as schedule at n s story true is now rest = rw is tt
  acts_as schedule at n s story false is now rest = rw is
      (EachMark-append (MarkActs s.code s.turns) s.code s.turns story (option_to_list (mark_of (event_of s (schedule at)).told)) (run_from schedule (at + 1) n (core_after s (schedule at))).order now rest)

  pub run_acts : (schedule : ℕ → ℕ) (at n : ℕ) (s : CoreState) (story : Story) → IsSteady s → StoryStands s.heap story.now story.flip → EachActs s.code s.turns story (run_from schedule at n s).order
  unfolding run_from
  run_acts schedule at zero s story steady stands = tt
  run_acts schedule at (suc n) s story steady stands =
      let k = keep s (schedule at) story steady stands in
      let told = (event_of s (schedule at)).told in
      acts_as schedule at n s story (all_ended s) refl (told_acts s (schedule at) story (event_of s (schedule at)).after told k.told)
      (run_acts schedule (at + 1) n (core_after s (schedule at)) (story_by s story told) k.steady k.stands)

  -- ---- each end for want of room is one

  unless : (b : Bool) (P : Type 0) → P → Unless b P
  unless true P y = tt
  unless false P y = y

  pub run_full : (schedule : ℕ → ℕ) (at n : ℕ) (s : CoreState) (story : Story) → IsSteady s → StoryStands s.heap story.now story.flip → EachEvent IsFull schedule at n s
  unfolding EachEvent
  run_full schedule at zero s story steady stands = tt
  run_full schedule at (suc n) s story steady stands =
      let k = keep s (schedule at) story steady stands in
      unless (all_ended s) (IsFull s (schedule at) × EachEvent IsFull schedule (at + 1) n (core_after s (schedule at)))
      (told_full s (schedule at) story k.told, run_full schedule (at + 1) n (core_after s (schedule at)) (story_by s story (event_of s (schedule at)).told) k.steady k.stands)

-- ---- what is seen

same_seen : (xs : List Held) (ls : List plain.Mutator) → length xs ≡ length ls
    → ((m : ℕ) (l : plain.Mutator) → slice_get ls m ≡ Some l → ((get_or xs m nobody).account.printed ≡ l.printed) × ((get_or xs m nobody).account.end ≡ l.end))
    → map (λ x. let seen : Seen = record { printed = x.account.printed; end = x.account.end } in seen) xs ≡ map (λ l. let seen : Seen = record { printed = l.printed; end = l.end } in seen) ls
same_seen [] [] as_many each = refl
same_seen [] (l ∷ ls) as_many each = absurd (omega (arith, as_many))
same_seen (x ∷ xs) [] as_many each = absurd (omega (arith, as_many))
same_seen (x ∷ xs) (l ∷ ls) as_many each =
    let first = each 0 l refl in
    let rest = same_seen xs ls (omega (arith, as_many)) (λ m k a. each (suc m) k a) in
    rw (first.0, first.1, rest)

-- what is seen of a core is what is seen of the plain state that it stands for
pub stands_seen : (so : WhatStandsIsSo) (s : CoreState) (p o : plain.Plain) → WorkersStand s.heap p o → seen_of s ≡ plain_seen p
stands_seen so s p o stands =
    let all = so s.heap p o stands in
    let few = all.enough in
    let as_many = all.as_many in
    same_seen (take s.heap.mutators s.heap.workers) p.mutators
    (length-take-le s.heap.mutators s.heap.workers few ∙ sym as_many)
    (λ m l is.
    let within = slice_get_within p.mutators m l is in
    let a = (all.mutators m l is).account in
    let same : get_or (take s.heap.mutators s.heap.workers) m nobody ≡ held_at s.heap m = get_or-take s.heap.mutators s.heap.workers m nobody (omega (arith, within, as_many)) in
    rw same (a.printed, a.end))
