-- What the plain machine keeps of checkpoints along an order.
use Rattle.std.proofs.Common.{◌≡◌, inl, inr, ℕ, ◌+◌, ◌<◌, min, Bool, true, false, cond, List, [], ◌∷◌, ◌++◌, Option, Some, None, Result, Ok, Err, slice_get, append_assoc, append-nil, refl, ap, sym, subst, ◌∙◌, arith}
use Rattle.std.specs.Option.{option_map_or}
use Rattle.std.specs.Result.{result_ok}
use Rattle.plain_state.specs.declared.end.End.{End}
use Rattle.plain_state.specs.declared.end.End.TheVariants.{HeapFull}
use Rattle.plain_state.specs.declared.sizes.TheConstants.{MOST_CHECKPOINTS}
use Rattle.plain_state.specs.State.{Mutator, Plain, Snapped}
use Rattle.mutator_asm.specs.declared.instr.Instr.{Instr}
use Rattle.plain_heap.specs.declared.mark.Mark.{Mark}
use Rattle.plain_heap.specs.declared.mark.Mark.TheVariants.{Step, Flip, Full, Traced}
use Rattle.plain_heap.specs.Action.{◌>>=◌}
use Rattle.plain_heap.specs.Call.{After, call}
use Rattle.plain_heap.specs.Calls.{KeepsCheckpoint}
use Rattle.plain_heap.specs.Checkpoints.LastCheckpoint.{IsLastCheckpoint, OrdersCountCheckpoints, OrdersKeepTheLastCheckpoint, WasBegun, executes_snap, is_snap, snaps_executed, snaps_next}
use Rattle.plain_heap.specs.Order.{Story, ended_for_want, first_story, is_asked, plain, story, story_after, story_marked}
use Rattle.plain_heap.specs.Step.{asked_by, ended, fetch, mutator_in, settled, stepped, stepped_as, stepped_if}
use Rattle.plain_heap.proofs.Calls.BegunCheckpoints.{SnapBegins, SnapLeaves, begun_counted, counted_more, if_snaps, left_as_it_is, snap_leaves}
use Rattle.plain_heap.proofs.Orders.Stories.{story_after-append}
use Rattle.plain_heap.proofs.Reaching.Emptying.{emptied_of_lost_cells}

module _ (code : List (List Instr)) (turns : ℕ) where
  -- ---- one mark

  module _ (s : Plain) where
    abbrev Leaves : (next : Plain) → (snaps : Bool) → Type 0
    Leaves next snaps = SnapLeaves s.heap next.heap snaps

    module _ (m : ℕ) (k : Mutator) where
      by_call : (instr : Instr) (o : Result After End) → call m s.heap k instr ≡ o → Leaves (settled s m k o) (is_snap instr)
      by_call instr (Ok after) called = snap_leaves s.heap m k instr (Ok after) called
      by_call instr (Err why) called = snap_leaves s.heap m k instr (Err why) called

      by_fetch : (o : Result Instr End) → Leaves (settled s m k (o >>= call m s.heap k)) (option_map_or is_snap (result_ok o) false)
      by_fetch (Ok instr) = by_call instr (call m s.heap k instr) refl
      by_fetch (Err why) = left_as_it_is s.heap

      by_end : (o : Option End) → Leaves (stepped_if code turns s m k o) (snaps_next code turns m k o)
      by_end (Some why) = left_as_it_is s.heap
      by_end None = by_fetch (fetch code turns m k)

    by_mutator : (m : ℕ) (o : Option Mutator) → Leaves (stepped_as code turns s m o) (option_map_or (λ k. snaps_next code turns m k k.end) o false)
    by_mutator m None = left_as_it_is s.heap
    by_mutator m (Some k) = by_end m k k.end

    by_full : (m asked room live : ℕ) (is : Bool) (o : Option Mutator)
        → Leaves (cond is (option_map_or (λ k. ended s m k (HeapFull asked room live)) o s) s) false
    by_full m asked room live true None = left_as_it_is s.heap
    by_full m asked room live true (Some k) = left_as_it_is s.heap
    by_full m asked room live false o = left_as_it_is s.heap

  mark_leaves : (s : Story) (mark : Mark) → SnapLeaves s.now.heap (story_marked code turns s mark).now.heap (executes_snap code turns s.now mark)
  unfolding ended_for_want stepped
  mark_leaves s (Step m) = by_mutator s.now m (mutator_in code s.now m)
  mark_leaves s (Flip asked) = left_as_it_is s.now.heap
  mark_leaves s (Full m asked room live) = by_full s.now m asked room live (is_asked asked (asked_by code turns s.now m)) (slice_get s.now.mutators m)
  mark_leaves s Traced =
      let emptied = emptied_of_lost_cells s.flip s.now in
      inl (record { is = refl; keeps = record { snaps = emptied.snaps; snapped = emptied.snapped } })

  -- ---- how many marks execute `snap`

  executed-append : (s : Story) (front marks : List Mark)
      → snaps_executed code turns s (front ++ marks) ≡ snaps_executed code turns s front + snaps_executed code turns (story_after code turns s front) marks
  executed-append s [] marks = omega arith
  executed-append s (mark ∷ front) marks =
      let rest = executed-append (story_marked code turns s mark) front marks in
      omega (arith, rest)

  abbrev executed : List Mark → ℕ
  executed order = snaps_executed code turns (first_story code) order

  -- ---- an order

  record Stands (order : List Mark) : Type 0 where
    last : IsLastCheckpoint code turns order
    counted : (plain code turns order).heap.snaps ≡ min (executed order) MOST_CHECKPOINTS

  module _ (front : List Mark) (mark : Mark) where
    abbrev before : Story
    before = story code turns front

    abbrev there : Plain
    there = plain code turns front

    abbrev next : Plain
    next = plain code turns (front ++ mark ∷ [])

    abbrev snaps : Bool
    snaps = executes_snap code turns there mark

    leaves : SnapLeaves there.heap next.heap snaps
    leaves = subst (λ (z : Story). SnapLeaves there.heap z.now.heap snaps) (sym (story_after-append code turns (first_story code) front (mark ∷ []))) (mark_leaves before mark)

    executed_more : executed (front ++ mark ∷ []) ≡ executed front + if_snaps snaps
    executed_more = let e = executed-append (first_story code) front (mark ∷ []) in omega (arith, e)

    -- the mark has no effect on what is kept
    module _ (number : ℕ) (kept : Snapped) (few : number < MOST_CHECKPOINTS → if_snaps snaps ≡ 0) where
      none_later : (s : Story) (rest : List Mark) → story_after code turns s rest ≡ before → snaps_executed code turns s rest ≡ 0 → if_snaps snaps ≡ 0
          → snaps_executed code turns s (rest ++ mark ∷ []) ≡ 0
      none_later s rest comes none other =
          let e = executed-append s rest (mark ∷ []) in
          let f : if_snaps (executes_snap code turns (story_after code turns s rest).now mark) ≡ 0 = subst (λ (z : Story). if_snaps (executes_snap code turns z.now mark) ≡ 0) (sym comes) other in
          omega (arith, e, f, none)

      was_begun-more : WasBegun code turns front number kept → WasBegun code turns (front ++ mark ∷ []) number kept
      was_begun-more begun =
          let upto : List Mark = begun.before ++ Step begun.m ∷ [] in
          let comes : story_after code turns (story code turns upto) begun.rest ≡ before =
          sym (story_after-append code turns (first_story code) upto begun.rest) ∙ ap (story code turns) (append_assoc begun.before (Step begun.m ∷ []) begun.rest ∙ sym begun.is) in
          record {
            before = begun.before;
            m = begun.m;
            rest = begun.rest ++ mark ∷ [];
            is = ap (λ (l : List Mark). l ++ mark ∷ []) begun.is ∙ append_assoc begun.before (Step begun.m ∷ begun.rest) (mark ∷ []);
            executes = begun.executes;
            counted = begun.counted;
            begins = begun.begins;
            last = λ l. none_later (story code turns upto) begun.rest comes (begun.last l) (few l);
          }

    kept_more : (next.heap.snaps < MOST_CHECKPOINTS → if_snaps snaps ≡ 0) → KeepsCheckpoint there.heap next.heap → IsLastCheckpoint code turns front
        → IsLastCheckpoint code turns (front ++ mark ∷ [])
    kept_more few keeps (inl none) =
        let number : next.heap.snaps ≡ 0 = keeps.snaps ∙ none.number in
        let other = few (omega (arith, number)) in
        let before = none.none in
        let e = executed_more in
        inl (record { number = number; none = omega (arith, e, before, other) })
    kept_more few keeps (inr begun) =
        inr (was_begun-more next.heap.snaps next.heap.snapped few
        (subst (λ (z : ℕ × Snapped). WasBegun code turns front z.0 z.1) (λ i. (sym keeps.snaps i, sym keeps.snapped i)) begun))

  begun_here : (front : List Mark) (mark : Mark) → (plain code turns front).heap.snaps ≡ min (executed front) MOST_CHECKPOINTS
      → SnapBegins (plain code turns front).heap (next front mark).heap (snaps front mark)
      → WasBegun code turns (front ++ mark ∷ []) (next front mark).heap.snaps (next front mark).heap.snapped
  begun_here front (Step m) counted leaves = record {
    before = front;
    m = m;
    rest = [];
    is = refl;
    executes = leaves.is;
    counted = begun_counted (plain code turns front).heap (next front (Step m)).heap (snaps front (Step m)) (executed front) counted leaves;
    begins = leaves.begins;
    last = λ l. refl;
  }
  begun_here front _ counted leaves = let never = leaves.is in absurd (cc)

  more : (front : List Mark) (mark : Mark) → Stands front → Stands (front ++ mark ∷ [])
  more front mark h = record {
    last = by_effect (leaves front mark);
    counted = counted_more (there front mark).heap (next front mark).heap (snaps front mark) (executed front) h.counted (leaves front mark)
        ∙ ap (λ (n : ℕ). min n MOST_CHECKPOINTS) (sym (executed_more front mark));
  }
    where
      by_effect : SnapLeaves (there front mark).heap (next front mark).heap (snaps front mark) → IsLastCheckpoint code turns (front ++ mark ∷ [])
      by_effect (inl other) = kept_more front mark (λ l. rw (other.is) refl) other.keeps h.last
      by_effect (inr (inl most)) =
          let same : (next front mark).heap.snaps ≡ MOST_CHECKPOINTS = most.keeps.snaps ∙ most.most in
          kept_more front mark (λ l. absurd (omega (arith, l, same))) most.keeps h.last
      by_effect (inr (inr begins)) = inr (begun_here front mark h.counted begins)

  along : (front marks : List Mark) → Stands front → Stands (front ++ marks)
  along front [] h = subst Stands (sym (append-nil front)) h
  along front (mark ∷ marks) h = subst Stands (append_assoc front (mark ∷ []) marks) (along (front ++ mark ∷ []) marks (more front mark h))

  stands : (order : List Mark) → Stands order
  stands order = along [] order (record { last = inl (record { number = refl; none = refl }); counted = refl })

pub orders_keep_the_last_checkpoint : OrdersKeepTheLastCheckpoint
orders_keep_the_last_checkpoint code turns order = (stands code turns order).last

pub orders_count_checkpoints : OrdersCountCheckpoints
orders_count_checkpoints code turns order = (stands code turns order).counted
