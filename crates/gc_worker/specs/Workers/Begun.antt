-- When a mutator began the instruction that it executes.
use Rattle.std.specs.Prelude.{◌≡◌, ℕ, ◌⊎◌, ⊤}
use Rattle.plain_state.specs.declared.end.End.TheVariants.{HeapFull}
use Rattle.atom_store.specs.declared.reply.Reply.{Reply}
use Rattle.gc_worker.specs.declared.stage.after.After.{After}
use Rattle.gc_worker.specs.declared.stage.after.After.TheVariants as afters
use Rattle.gc_worker.specs.declared.stage.back.Back.{Back}
use Rattle.gc_worker.specs.declared.stage.back.Back.TheVariants.{ToAccess, ToTarget, ToPlace, ToSnap, ToScanner}
use Rattle.gc_worker.specs.declared.stage.goal.Goal.{Goal}
use Rattle.gc_worker.specs.declared.stage.goal.Goal.TheVariants.{ForFlip, ForSnap, ForScanner}
use Rattle.gc_worker.specs.declared.stage.Stage.{Stage}
use Rattle.gc_worker.specs.declared.stage.Stage.TheVariants.{Looks, Passes, Flips, Forwards, Accesses, Places, Serves, Scans, Evacuates, Opens, Recalls, Guards, Checkpoints, BeginsCheckpoint, Gone}
use Rattle.gc_worker.specs.declared.task.Task.{Task}
use Rattle.gc_worker.specs.Workers.Fits.{Fits}
use Rattle.gc_worker.specs.Workers.Held.{Held}
use Rattle.gc_worker.specs.declared.calls.did.Did.TheVariants.{Trap}
use Rattle.gc_worker.specs.Steps.Turned.{Answers, turned, told}

abbrev pub IsPastAfter : After → Type 0
IsPastAfter afters.Looks = ⊥
IsPastAfter afters.Places = ⊤
IsPastAfter afters.Snaps = ⊤

abbrev pub IsPastBack : Back → Type 0
IsPastBack (ToAccess a) = ⊤
IsPastBack (ToTarget a) = ⊤
IsPastBack ToPlace = ⊤
IsPastBack ToSnap = ⊤
IsPastBack ToScanner = ⊥

abbrev pub IsPastGoal : Goal → Type 0
IsPastGoal ForFlip = ⊤
IsPastGoal ForSnap = ⊤
IsPastGoal ForScanner = ⊥

-- a mutator at this stage has begun an instruction by a look, and goes on with it
abbrev pub IsPastLook : Stage → Type 0
IsPastLook Looks = ⊥
IsPastLook (Passes g after) = IsPastAfter after
IsPastLook (Flips f) = ⊤
IsPastLook (Forwards w) = IsPastAfter w.after
IsPastLook (Accesses a) = ⊤
IsPastLook (Places p) = ⊤
IsPastLook (Serves d back) = IsPastBack back
IsPastLook (Scans s back) = IsPastBack back
IsPastLook (Evacuates v s back) = IsPastBack back
IsPastLook (Opens o s back) = IsPastBack back
IsPastLook (Recalls r after) = IsPastAfter after
IsPastLook (Guards g write) = ⊤
IsPastLook (Checkpoints r goal) = IsPastGoal goal
IsPastLook (BeginsCheckpoint s) = ⊤
IsPastLook Gone = ⊥

-- it began at this look, in its epoch; or earlier, and the epoch in which it began is kept
abbrev pub BeganAt : (was now : Held) → Type 0
BeganAt was now = ((was.stage ≡ Looks) × (now.begun ≡ was.epoch)) ⊎ (IsPastLook was.stage × (now.begun ≡ was.begun))

abbrev pub BeginningsAreKept : Type 0
BeginningsAreKept = (n mutators k : ℕ) (x : Held) (reply : Reply) → Fits n mutators k x → IsPastLook (turned x reply).stage → BeganAt x (turned x reply)

-- a look never finds the heap full
abbrev pub FullIsFoundLater : Type 0
FullIsFoundLater = (n mutators k : ℕ) (x : Held) (reply : Reply) (task : Task) (asked room live : ℕ) → Fits n mutators k x
    → told x reply ≡ Answers task (Trap (HeapFull asked room live)) → IsPastLook x.stage
