-- A step that answers another task than `snap` leaves what the plain heap has kept of checkpoints.
use Rattle.std.proofs.Common.{◌≡◌, [], ℕ, List, Option, Some, None, Result, Ok, Err, false, refl, sym, subst}
use Rattle.std.specs.Result.{IfOk}
use Rattle.std.specs.Prelude.{⊤, slice_get}
use Rattle.mutator_asm.specs.declared.instr.Instr.{Instr}
use Rattle.plain_state.specs.declared.end.End.{End}
use Rattle.plain_state.specs.State.{Heap, Mutator, Plain}
use Rattle.plain_heap.specs.declared.action.Action.{Action}
use Rattle.plain_heap.specs.declared.action.Action.TheVariants.{Snaps}
use Rattle.plain_heap.specs.Action.{action}
use Rattle.plain_heap.specs.Call.{After, call}
use Rattle.plain_heap.specs.Calls.{KeepsCheckpoint, LeavesCheckpoint}
use Rattle.plain_heap.proofs.Calls.BegunCheckpoints.{only_snap_begins}
use Rattle.gc_worker.specs.declared.calls.did.Did.TheVariants.{Done, Trap}
use Rattle.gc_worker.specs.declared.task.Task.{Task}
use Rattle.gc_worker.specs.declared.task.Task.TheVariants.{Calls, Stops}
use Rattle.gc_worker.specs.Plain.Answer.{after_outcome, after_answer, after_told}
use Rattle.gc_worker.specs.Plain.Seen.{seen}
use Rattle.gc_worker.specs.Steps.Turned.{Told, Answers, told_effect, told_end}
use Rattle.gc_worker.specs.Workers.Fits.{ExecutesAction}
use Rattle.heap_state.specs.Known.{Account}
use Rattle.gc_worker.proofs.Plain.OnlySnap.{acts, is_snap, is_snaps, not_snap}
use Rattle.gc_worker.proofs.Saving.Frame.Step.{KeepsSnaps}
use Rattle.gc_worker.proofs.Plain.Quiet.{IsQuiet}

-- ---- the heap

keeps_by : (heap next : Heap) (o : Result Action End) → IfOk o (λ act. is_snaps act ≡ false) → LeavesCheckpoint o heap next → KeepsCheckpoint heap next
keeps_by heap next (Ok Snaps) other leaves = absurd (cc)
keeps_by heap next _ other leaves = leaves

-- a call of another instruction keeps what there is
module _ (p : Plain) (k : ℕ) (i : Instr) (other : is_snap i ≡ false) (q : Mutator) where
  by_call : (o : Result After End) → call k p.heap q i ≡ o → KeepsCheckpoint p.heap (after_outcome p k q (Calls i) Done).heap
  by_call (Ok after) is = rw is (keeps_by p.heap after.heap (action q i) (acts q i other) (only_snap_begins k p.heap q i after is))
  by_call (Err why) is = rw is (record { snaps = refl; snapped = refl })

calls_keep : (p : Plain) (k : ℕ) (i : Instr) → is_snap i ≡ false → (o : Option Mutator) → KeepsCheckpoint p.heap (after_answer p k (Calls i) Done o).heap
calls_keep p k i other (Some q) = by_call p k i other q (call k p.heap q i) refl
calls_keep p k i other None = record { snaps = refl; snapped = refl }

-- the step is none that answers `snap`
abbrev pub IsNoSnap : Told → Type 0
IsNoSnap (Answers (Calls i) Done) = is_snap i ≡ false
IsNoSnap _ = ⊤

ends_keep : (p : Plain) (k : ℕ) (task : Task) (why : End) (o : Option Mutator) → KeepsCheckpoint p.heap (after_answer p k task (Trap why) o).heap
ends_keep p k (Calls i) why (Some q) = record { snaps = refl; snapped = refl }
ends_keep p k (Stops end) why (Some q) = record { snaps = refl; snapped = refl }
ends_keep p k task why None = record { snaps = refl; snapped = refl }

stops_keep : (p : Plain) (k : ℕ) (end : End) (o : Option Mutator) → KeepsCheckpoint p.heap (after_answer p k (Stops end) Done o).heap
stops_keep p k end (Some q) = record { snaps = refl; snapped = refl }
stops_keep p k end None = record { snaps = refl; snapped = refl }

kept : (p : Plain) (k : ℕ) (t : Told) → IsNoSnap t → KeepsCheckpoint p.heap (after_told [] p k t).heap
kept p k (Answers (Calls i) Done) other = calls_keep p k i other (slice_get p.mutators k)
kept p k (Answers (Stops end) Done) other = stops_keep p k end (slice_get p.mutators k)
kept p k (Answers task (Trap why)) other = ends_keep p k task why (slice_get p.mutators k)
kept p k _ other = record { snaps = refl; snapped = refl }

pub keeps_snaps : (p : Plain) (k : ℕ) (t : Told) → IsNoSnap t → KeepsSnaps p k t
keeps_snaps p k t other = let same = kept p k t other in record { snaps = same.snaps; snapped = same.snapped }

-- nor is one that answers nothing
quiet_no_snap : (t : Told) → IsQuiet t → IsNoSnap t
quiet_no_snap (Answers task outcome) quiet = absurd quiet
quiet_no_snap _ quiet = tt

pub quiet_keeps : (p : Plain) (k : ℕ) (t : Told) → IsQuiet t → KeepsSnaps p k t
quiet_keeps p k t quiet = keeps_snaps p k t (quiet_no_snap t quiet)

-- ---- effects and ends

-- an effect of an instruction with another action
pub no_snap_effect : (account : Account) (registers : List ℕ) (task : Option Task) (act : Action) → ExecutesAction account registers task act → is_snaps act ≡ false
    → IsNoSnap (told_effect task)
no_snap_effect account registers task act e other =
    subst (λ (t : Option Task). IsNoSnap (told_effect t)) (sym e.task_is) (not_snap (seen account registers) e.instr act e.acts other)

pub no_snap_end : (task : Option Task) (why : End) → IsNoSnap (told_end task why)
no_snap_end None why = tt
no_snap_end (Some (Calls i)) why = tt
no_snap_end (Some (Stops end)) why = tt
