-- What is kept of checkpoints along a history.
use Rattle.std.proofs.Common.{◌≡◌, inl, inr, ℕ, ◌+◌, ◌<◌, min, Bool, true, false, List, [], ◌∷◌, ◌++◌, Option, Some, None, Result, Ok, Err, slice_get, append_assoc, append-nil, refl, ap, sym, subst, ◌∙◌, arith}
use Rattle.std.specs.Option.{option_map_or}
use Rattle.plain_state.specs.declared.end.End.{End}
use Rattle.plain_state.specs.declared.sizes.TheConstants.{MOST_CHECKPOINTS}
use Rattle.plain_state.specs.State.{Mutator, Plain, Snapped}
use Rattle.mutator_asm.specs.declared.instr.Instr.{Instr}
use Rattle.plain_heap.specs.Call.{After, call}
use Rattle.plain_heap.specs.Calls.{KeepsCheckpoint}
use Rattle.plain_heap.specs.Checkpoints.LastCheckpoint.{BeginsBetween, is_snap}
use Rattle.plain_heap.specs.Step.{settled}
use Rattle.plain_heap.proofs.Calls.BegunCheckpoints.{SnapBegins, SnapLeaves, begun_counted, counted_more, if_snaps, left_as_it_is, snap_leaves}
use Rattle.plain_heap.proofs.Calls.OnlySnap.{is_snap_alone}
use Rattle.gc_worker.specs.declared.calls.call.Call.{Call}
use Rattle.gc_worker.specs.declared.calls.did.Did.{Did}
use Rattle.gc_worker.specs.declared.calls.did.Did.TheVariants.{Done, Trap}
use Rattle.gc_worker.specs.declared.calls.entry.Entry.{Entry}
use Rattle.gc_worker.specs.declared.calls.entry.Entry.TheVariants.{Made, Exchanged, Emptied}
use Rattle.gc_worker.specs.declared.task.Task.{Task}
use Rattle.gc_worker.specs.declared.task.Task.TheVariants.{Calls, Stops}
use Rattle.gc_worker.specs.Plain.Answer.{after_answer, after_outcome, with_emptied}
use Rattle.gc_worker.specs.History.Checkpoints.{HistoriesCountCheckpoints, HistoriesKeepTheLastCheckpoint, IsLastOfHistory, WasBegunByCall, calls_snap, is_snap_done, snap_call, snaps_called}
use Rattle.gc_worker.specs.History.Legal.{after_all, after_call, worker_call}
use Rattle.gc_worker.proofs.Plain.CellTargets.Emptied.{same_checkpoint}
use Rattle.gc_worker.proofs.History.Extensions.{after_append}

-- ---- one entry

module _ (p : Plain) (k : ℕ) where
  abbrev Leaves : (next : Plain) → (snaps : Bool) → Type 0
  Leaves next snaps = SnapLeaves p.heap next.heap snaps

  by_call : (q : Mutator) (instr : Instr) (o : Result After End) → call k p.heap q instr ≡ o → Leaves (settled p k q o) (is_snap instr)
  by_call q instr (Ok after) called = snap_leaves p.heap k q instr (Ok after) called
  by_call q instr (Err why) called = snap_leaves p.heap k q instr (Err why) called

  by_outcome : (q : Mutator) (task : Task) (did : Did) → Leaves (after_outcome p k q task did) (is_snap_done task did)
  by_outcome q (Calls instr) Done = by_call q instr (call k p.heap q instr) refl
  by_outcome q (Calls instr) (Trap end) = left_as_it_is p.heap
  by_outcome q (Stops end) Done = left_as_it_is p.heap
  by_outcome q (Stops end) (Trap other) = left_as_it_is p.heap

  by_mutator : (task : Task) (did : Did) (o : Option Mutator) → Leaves (after_answer p k task did o) (option_map_or (λ q. is_snap_done task did) o false)
  by_mutator task did (Some q) = by_outcome q task did
  by_mutator task did None = left_as_it_is p.heap

-- whether an entry is such a call
abbrev entry_snaps : Plain → Entry → Bool
entry_snaps p (Made c) = calls_snap p c
entry_snaps p (Exchanged by asked) = false
entry_snaps p (Emptied cells) = false

entry_leaves : (p : Plain) (e : Entry) → SnapLeaves p.heap (after_all p (e ∷ [])).heap (entry_snaps p e)
entry_leaves p (Made c) = by_mutator p c.by c.task c.did (slice_get p.mutators c.by)
entry_leaves p (Exchanged by asked) = left_as_it_is p.heap
entry_leaves p (Emptied cells) = inl (record { is = refl; keeps = same_checkpoint p cells })

-- it is `snap` that is called, with its effect
entry_is : (p : Plain) (c : Call) → calls_snap p c ≡ true → Made c ≡ Made (snap_call c.by)
entry_is p c is = rw (by_mutator_there (slice_get p.mutators c.by) is) refl
  where
    by_task : (task : Task) (did : Did) → is_snap_done task did ≡ true → worker_call c.by task did ≡ snap_call c.by
    by_task (Calls instr) Done snap = rw (is_snap_alone instr snap) refl
    by_task (Calls instr) (Trap end) snap = absurd (cc)
    by_task (Stops end) did snap = absurd (cc)

    by_mutator_there : (o : Option Mutator) → option_map_or (λ q. is_snap_done c.task c.did) o false ≡ true → worker_call c.by c.task c.did ≡ snap_call c.by
    by_mutator_there (Some q) snap = by_task c.task c.did snap
    by_mutator_there None snap = absurd (cc)

-- ---- how many calls are of `snap`

called_one : (p : Plain) (e : Entry) → snaps_called p (e ∷ []) ≡ if_snaps (entry_snaps p e)
called_one p (Made c) = omega arith
called_one p (Exchanged by asked) = refl
called_one p (Emptied cells) = refl

called-append : (p : Plain) (front log : List Entry) → snaps_called p (front ++ log) ≡ snaps_called p front + snaps_called (after_all p front) log
called-append p [] log = omega arith
called-append p (Made c ∷ front) log = let rest = called-append (after_call p c) front log in omega (arith, rest)
called-append p (Exchanged by asked ∷ front) log = called-append p front log
called-append p (Emptied cells ∷ front) log = called-append (with_emptied p cells) front log

-- ---- a history

module _ (first : Plain) where
  abbrev called : List Entry → ℕ
  called log = snaps_called first log

  record Stands (log : List Entry) : Type 0 where
    last : IsLastOfHistory first log
    counted : (after_all first log).heap.snaps ≡ min (called log) MOST_CHECKPOINTS

  module _ (front : List Entry) (e : Entry) where
    abbrev there : Plain
    there = after_all first front

    abbrev next : Plain
    next = after_all first (front ++ e ∷ [])

    abbrev snaps : Bool
    snaps = entry_snaps there e

    leaves : SnapLeaves there.heap next.heap snaps
    leaves = subst (λ (z : Plain). SnapLeaves there.heap z.heap snaps) (sym (after_append first front (e ∷ []))) (entry_leaves there e)

    called_more : called (front ++ e ∷ []) ≡ called front + if_snaps snaps
    called_more = called-append first front (e ∷ []) ∙ ap (λ (n : ℕ). called front + n) (called_one there e)

    -- the entry has no effect on what is kept
    module _ (number : ℕ) (kept : Snapped) (few : number < MOST_CHECKPOINTS → if_snaps snaps ≡ 0) where
      none_later : (p : Plain) (rest : List Entry) → after_all p rest ≡ there → snaps_called p rest ≡ 0 → if_snaps snaps ≡ 0 → snaps_called p (rest ++ e ∷ []) ≡ 0
      none_later p rest comes none other =
          let more = called-append p rest (e ∷ []) in
          let one : snaps_called (after_all p rest) (e ∷ []) ≡ 0 = called_one (after_all p rest) e ∙ (ap (λ (z : Plain). if_snaps (entry_snaps z e)) comes ∙ other) in
          omega (arith, more, one, none)

      was_begun-more : WasBegunByCall first front number kept → WasBegunByCall first (front ++ e ∷ []) number kept
      was_begun-more begun =
          let upto : List Entry = begun.before ++ Made (snap_call begun.m) ∷ [] in
          let comes : after_all (after_all first upto) begun.rest ≡ there =
          sym (after_append first upto begun.rest) ∙ ap (after_all first) (append_assoc begun.before (Made (snap_call begun.m) ∷ []) begun.rest ∙ sym begun.is) in
          record {
            before = begun.before;
            m = begun.m;
            rest = begun.rest ++ e ∷ [];
            is = ap (λ (l : List Entry). l ++ e ∷ []) begun.is ∙ append_assoc begun.before (Made (snap_call begun.m) ∷ begun.rest) (e ∷ []);
            counted = begun.counted;
            begins = begun.begins;
            last = λ l. none_later (after_all first upto) begun.rest comes (begun.last l) (few l);
          }

    kept_more : (next.heap.snaps < MOST_CHECKPOINTS → if_snaps snaps ≡ 0) → KeepsCheckpoint there.heap next.heap → IsLastOfHistory first front → IsLastOfHistory first (front ++ e ∷ [])
    kept_more few keeps (inl none) =
        let number : next.heap.snaps ≡ 0 = keeps.snaps ∙ none.number in
        let other = few (omega (arith, number)) in
        let before = none.none in
        let more = called_more in
        inl (record { number = number; none = omega (arith, more, before, other) })
    kept_more few keeps (inr begun) =
        inr (was_begun-more next.heap.snaps next.heap.snapped few
        (subst (λ (z : ℕ × Snapped). WasBegunByCall first front z.0 z.1) (λ i. (sym keeps.snaps i, sym keeps.snapped i)) begun))

  begun_here : (front : List Entry) (e : Entry) → (after_all first front).heap.snaps ≡ min (called front) MOST_CHECKPOINTS
      → SnapBegins (after_all first front).heap (next front e).heap (snaps front e)
      → WasBegunByCall first (front ++ e ∷ []) (next front e).heap.snaps (next front e).heap.snapped
  begun_here front (Made c) counted leaves =
      let is : Made c ≡ Made (snap_call c.by) = entry_is (after_all first front) c leaves.is in
      record {
        before = front;
        m = c.by;
        rest = [];
        is = ap (λ (z : Entry). front ++ z ∷ []) is;
        counted = begun_counted (after_all first front).heap (next front (Made c)).heap (snaps front (Made c)) (called front) counted leaves;
        begins = subst (λ (z : Entry). BeginsBetween (after_all first front).heap (next front z).heap (next front (Made c)).heap.snaps (next front (Made c)).heap.snapped) is leaves.begins;
        last = λ l. refl;
      }
  begun_here front (Exchanged by asked) counted leaves = let never = leaves.is in absurd (cc)
  begun_here front (Emptied cells) counted leaves = let never = leaves.is in absurd (cc)

  more : (front : List Entry) (e : Entry) → Stands front → Stands (front ++ e ∷ [])
  more front e h = record {
    last = by_effect (leaves front e);
    counted = counted_more (there front e).heap (next front e).heap (snaps front e) (called front) h.counted (leaves front e)
        ∙ ap (λ (n : ℕ). min n MOST_CHECKPOINTS) (sym (called_more front e));
  }
    where
      by_effect : SnapLeaves (there front e).heap (next front e).heap (snaps front e) → IsLastOfHistory first (front ++ e ∷ [])
      by_effect (inl other) = kept_more front e (λ l. rw (other.is) refl) other.keeps h.last
      by_effect (inr (inl most)) =
          let same : (next front e).heap.snaps ≡ MOST_CHECKPOINTS = most.keeps.snaps ∙ most.most in
          kept_more front e (λ l. absurd (omega (arith, l, same))) most.keeps h.last
      by_effect (inr (inr begins)) = inr (begun_here front e h.counted begins)

  along : (front log : List Entry) → Stands front → Stands (front ++ log)
  along front [] h = subst Stands (sym (append-nil front)) h
  along front (e ∷ log) h = subst Stands (append_assoc front (e ∷ []) log) (along (front ++ e ∷ []) log (more front e h))

  stands : (log : List Entry) → first.heap.snaps ≡ 0 → Stands log
  stands log none = along [] log (record { last = inl (record { number = none; none = refl }); counted = none })

pub histories_keep_the_last_checkpoint : HistoriesKeepTheLastCheckpoint
histories_keep_the_last_checkpoint first log none = (stands first log none).last

pub histories_count_checkpoints : HistoriesCountCheckpoints
histories_count_checkpoints first log none = (stands first log none).counted
