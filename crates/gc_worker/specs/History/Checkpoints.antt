-- Which checkpoint a history has kept.
use Rattle.std.specs.Prelude.{◌≡◌, ◌⊎◌, ℕ, ◌+◌, ◌<◌, min, Bool, false, List, [], ◌∷◌, ◌++◌, slice_get, if◌then◌else◌}
use Rattle.std.specs.Option.{option_map_or}
use Rattle.plain_state.specs.declared.sizes.TheConstants.{MOST_CHECKPOINTS}
use Rattle.plain_state.specs.State.{Plain, Snapped}
use Rattle.mutator_asm.specs.declared.instr.Instr.TheVariants.{Snap}
use Rattle.plain_heap.specs.Checkpoints.LastCheckpoint.{BeginsBetween, is_snap}
use Rattle.gc_worker.specs.declared.calls.call.Call.{Call}
use Rattle.gc_worker.specs.declared.calls.did.Did.{Did}
use Rattle.gc_worker.specs.declared.calls.did.Did.TheVariants.{Done}
use Rattle.gc_worker.specs.declared.calls.entry.Entry.{Entry}
use Rattle.gc_worker.specs.declared.calls.entry.Entry.TheVariants.{Made, Exchanged, Emptied}
use Rattle.gc_worker.specs.declared.task.Task.{Task}
use Rattle.gc_worker.specs.declared.task.Task.TheVariants.{Calls}
use Rattle.gc_worker.specs.History.Legal.{after_all, after_call, worker_call}
use Rattle.gc_worker.specs.Plain.Answer.{with_emptied}

-- ---- which calls are of `snap`

-- mutator m calls `snap`, which has its effect
abbrev pub snap_call : (m : ℕ) → Call
snap_call m = worker_call m (Calls Snap) Done

-- whether a call of this task that came to this is one of `snap` that had its effect
abbrev pub is_snap_done : Task → Did → Bool
is_snap_done (Calls instr) Done = is_snap instr
is_snap_done _ _ = false

-- whether a call is that, by a mutator that there is
abbrev pub calls_snap : Plain → Call → Bool
calls_snap p c = option_map_or (λ q. is_snap_done c.task c.did) (slice_get p.mutators c.by) false

-- how many calls of a history that goes on from this plain state are
abbrev pub snaps_called : Plain → List Entry → ℕ
snaps_called p [] = 0
snaps_called p (Made c ∷ es) = (if calls_snap p c then 1 else 0) + snaps_called (after_call p c) es
snaps_called p (Exchanged by asked ∷ es) = snaps_called p es
snaps_called p (Emptied cells ∷ es) = snaps_called (with_emptied p cells) es

-- ---- the last one that began a checkpoint

-- A call of `snap` in the history, as the one of this number, begins the checkpoint of this number, of which this is kept. None is later; but
-- once there have been the most checkpoints, a call leaves what is kept.
pub record WasBegunByCall (first : Plain) (log : List Entry) (number : ℕ) (kept : Snapped) : Type 0 where
  pub before : List Entry
  pub m : ℕ
  pub rest : List Entry
  pub is : log ≡ before ++ Made (snap_call m) ∷ rest
  pub counted : snaps_called first before + 1 ≡ number
  pub begins : BeginsBetween (after_all first before).heap (after_all first (before ++ Made (snap_call m) ∷ [])).heap number kept
  pub last : number < MOST_CHECKPOINTS → snaps_called (after_all first (before ++ Made (snap_call m) ∷ [])) rest ≡ 0

-- no checkpoint was begun, and no call of `snap` in the history had its effect
pub record NoneCalled (first : Plain) (log : List Entry) : Type 0 where
  pub number : (after_all first log).heap.snaps ≡ 0
  pub none : snaps_called first log ≡ 0

-- what is kept after a history that goes on from this plain state is its last checkpoint, if one was begun in it
abbrev pub IsLastOfHistory : (first : Plain) → List Entry → Type 0
IsLastOfHistory first log = NoneCalled first log ⊎ WasBegunByCall first log (after_all first log).heap.snaps (after_all first log).heap.snapped

-- so it is after each history before which there was no checkpoint
abbrev pub HistoriesKeepTheLastCheckpoint : Type 0
HistoriesKeepTheLastCheckpoint = (first : Plain) (log : List Entry) → first.heap.snaps ≡ 0 → IsLastOfHistory first log

-- as many are begun in it as `snap` is called, but no more than the most
abbrev pub HistoriesCountCheckpoints : Type 0
HistoriesCountCheckpoints = (first : Plain) (log : List Entry) → first.heap.snaps ≡ 0
    → (after_all first log).heap.snaps ≡ min (snaps_called first log) MOST_CHECKPOINTS
