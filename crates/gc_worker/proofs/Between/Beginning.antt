-- A mutator without a task and without an end stands at a look, or on the way to one, and may be given a task.
use Rattle.std.proofs.Common.{◌≡◌, ℕ, Bool, true, false, is_some, nat_lt, Some, refl, sym, ap, ◌∙◌, lt-ltb}
use Rattle.std.specs.Bool.{⊤}
use Rattle.plain_heap.specs.declared.action.Action.{Action}
use Rattle.gate_core.specs.declared.gate_stage.GateStage.{GateStage}
use Rattle.gate_core.specs.declared.gate_stage.GateStage.TheVariants as gate_stage
use Rattle.gate_core.specs.declared.passage.Passage.{Passage}
use Rattle.gate_core.specs.declared.passage.Passage.TheVariants.{Look, Attach, Request, Leave, Clear}
use Rattle.gc_worker.specs.declared.stage.after.After.{After}
use Rattle.gc_worker.specs.declared.stage.after.After.TheVariants as afters
use Rattle.gc_worker.specs.declared.stage.back.Back.{Back}
use Rattle.gc_worker.specs.declared.stage.back.Back.TheVariants.{ToSnap, ToScanner}
use Rattle.gc_worker.specs.declared.stage.forwarding_register.ForwardingRegister.{ForwardingRegister}
use Rattle.gc_worker.specs.declared.stage.goal.Goal.{Goal}
use Rattle.gc_worker.specs.declared.stage.goal.Goal.TheVariants.{ForFlip, ForSnap, ForScanner}
use Rattle.gc_worker.specs.declared.stage.write.Write.{Write}
use Rattle.gc_worker.specs.declared.stage.write.Write.TheVariants.{OfAccess, OfPlace}
use Rattle.gc_worker.specs.declared.stage.Stage.{Stage}
use Rattle.gc_worker.specs.declared.stage.Stage.TheVariants.{Looks, Passes, Flips, Forwards, Accesses, Places, Serves, Scans, Evacuates, Opens, Recalls, Guards, Checkpoints, BeginsCheckpoint, Gone}
use Rattle.gc_worker.specs.declared.task.Task.{Task}
use Rattle.gc_worker.specs.Laws.Between.{IsIdle, TasksMayBegin, with_task}
use Rattle.gc_worker.specs.Workers.Fits.{ExecutesAction, Fits, FitsEnd, FitsRegister, FitsStage, FitsTask, FitsTaskAfter, FitsTaskAsking, FitsTaskBack, FitsTaskBefore, FitsTaskFor, FitsTaskWrite, IsEndBefore, IsOnSide, IsOnSideBack, IsOnSideFor, MayBegin}
use Rattle.gc_worker.specs.Workers.Held.{Held, pages_needed}
use Rattle.gc_worker.specs.Workers.Knows.{known_at, passage_in, step_from, gate_step_at}
use Rattle.gc_worker.specs.Workers.Saves.{saver_at}

-- ---- where it stands

-- a passage after which a mutator looks
abbrev IsOnTheWay : Passage → After → Type 0
IsOnTheWay Attach after = ⊤
IsOnTheWay Look after = ⊥
IsOnTheWay Request after = ⊥
IsOnTheWay Leave after = ⊥
IsOnTheWay _ after = after ≡ afters.Looks

abbrev Waits : Stage → Type 0
Waits Looks = ⊤
Waits (Passes g after) = IsOnTheWay g.passage after
Waits (Forwards w) = w.after ≡ afters.Looks
Waits (Recalls r after) = after ≡ afters.Looks
Waits stage = ⊥

module _ (x : Held) (idle : IsIdle x) where
  executes_none : {act : Action} → ExecutesAction x.account x.registers x.task act → ⊥
  executes_none e = absurd (let f = sym idle.no_task ∙ e.task_is in cc)

  unended : is_some x.account.end ≡ true → ⊥
  unended e = absurd (let f = sym (ap is_some idle.no_end) ∙ e in cc)

  mutator : nat_lt x.number x.mutators ≡ false → ⊥
  mutator e = absurd (let f = sym (lt-ltb x.number x.mutators idle.is_mutator) ∙ e in cc)

  looks_after : (after : After) → FitsTaskAfter x after → after ≡ afters.Looks
  looks_after afters.Looks task = refl
  looks_after afters.Places task = absurd (executes_none task.executes)
  looks_after afters.Snaps task = absurd (executes_none task)

  asks_none : (after : After) → FitsTaskAsking x after → ⊥
  asks_none afters.Looks task = task
  asks_none afters.Places task = executes_none task.executes
  asks_none afters.Snaps task = executes_none task

  by_passage : (passage : Passage) (after : After) → IsEndBefore passage (is_some x.account.end) → FitsTaskBefore x passage after → IsOnTheWay passage after
  by_passage Attach after end task = tt
  by_passage Clear after end task = task.1
  by_passage Look after end task = absurd task
  by_passage Request after end task = absurd (asks_none after task)
  by_passage Leave after end task = absurd (unended end)
  by_passage _ after end task = looks_after after task

  by_back : (back : Back) → FitsTaskBack x back → IsOnSideBack back (nat_lt x.number x.mutators) → ⊥
  by_back ToSnap task side = executes_none task.0
  by_back ToScanner task side = mutator side
  by_back _ task side = executes_none task.executes

  by_write : (write : Write) → FitsTaskWrite x write → ⊥
  by_write (OfAccess a) task = executes_none task.executes
  by_write (OfPlace p) task = executes_none task.0.executes

  by_goal : (goal : Goal) → FitsTaskFor x goal → IsOnSideFor goal (nat_lt x.number x.mutators) → ⊥
  by_goal ForFlip task side = executes_none task.executes
  by_goal ForSnap task side = executes_none task
  by_goal ForScanner task side = mutator side

  is_gone : (b : Bool) → nat_lt x.number x.mutators ≡ b → IsOnSide Gone b (is_some x.account.end) → ⊥
  is_gone true e side = unended side
  is_gone false e side = mutator e

  waits : (stage : Stage) → FitsTask x stage → FitsEnd stage (is_some x.account.end) → IsOnSide stage (nat_lt x.number x.mutators) (is_some x.account.end) → Waits stage
  waits Looks task end side = tt
  waits (Passes g after) task end side = by_passage g.passage after end task
  waits (Flips f) task end side = executes_none task.0.executes
  waits (Forwards w) task end side = looks_after w.after task
  waits (Accesses a) task end side = executes_none task.executes
  waits (Places p) task end side = executes_none task.0.executes
  waits (Serves d back) task end side = by_back back task side
  waits (Scans s back) task end side = by_back back task side
  waits (Evacuates v s back) task end side = by_back back task side
  waits (Opens o s back) task end side = by_back back task side
  waits (Recalls r after) task end side = looks_after after task
  waits (Guards g write) task end side = by_write write task
  waits (Checkpoints r goal) task end side = by_goal goal task side
  waits (BeginsCheckpoint s) task end side = executes_none task
  waits Gone task end side = is_gone (nat_lt x.number x.mutators) refl side

-- ---- with the task

module _ (x : Held) (task : Task) where
  abbrev y : Held
  y = with_task x task

  -- no passage but a request says for what it is made
  same_passage : (passage : Passage) (after : After) → IsOnTheWay passage after → passage_in (pages_needed y) after passage ≡ passage_in (pages_needed x) after passage
  same_passage Request after on = absurd on
  same_passage _ after on = refl

  same_step : (passage : Passage) (after : After) (stage : GateStage) → IsOnTheWay passage after → gate_step_at (pages_needed y) after passage stage ≡ gate_step_at (pages_needed x) after passage stage
  same_step passage after (gate_stage.Exchanges gate) on = ap (step_from gate) (same_passage passage after on)
  same_step passage after gate_stage.Loads on = refl
  same_step passage after (gate_stage.Ended result) on = refl

  known : (stage : Stage) → Waits stage → known_at y stage ≡ known_at x stage
  known Looks w = refl
  known (Passes g after) w = λ i. record (known_at x (Passes g after)) { gate_step = same_step g.passage after g.stage w i }
  known (Forwards w) e = refl
  known (Recalls r after) w = refl
  known _ w = absurd w

  -- of checkpoints it holds what it held
  saves : (stage : Stage) → Waits stage → saver_at y stage ≡ saver_at x stage
  saves Looks w = refl
  saves (Passes g after) w = refl
  saves (Forwards w) e = refl
  saves (Recalls r after) w = refl
  saves _ w = absurd w

  fits_copy : (w : ForwardingRegister) → FitsRegister x w → FitsRegister y w
  fits_copy w f =
      let c = f.copy in
      record { register = f.register; copy = record { layout = c.layout; of_epoch = c.of_epoch; worker = c.worker; going = c.going; sound = c.sound } }

  fits_stage : (stage : Stage) → Waits stage → FitsStage x stage → FitsStage y stage
  fits_stage Looks w f = tt
  fits_stage (Passes g after) w f = record { layout = f.layout; passage = f.passage; going = f.going; sound = f.sound }
  fits_stage (Forwards w) e f = fits_copy w f
  fits_stage (Recalls r after) w f = record { room = f.room; layout = f.layout; going = f.going; sound = f.sound }
  fits_stage _ w s = absurd w

  module _ (may : MayBegin x.account x.registers (Some task)) where
    task_after : (after : After) → after ≡ afters.Looks → FitsTaskAfter y after
    task_after afters.Looks e = may
    task_after afters.Places e = absurd (cc)
    task_after afters.Snaps e = absurd (cc)

    task_before : (passage : Passage) (after : After) → IsOnTheWay passage after → FitsTaskBefore y passage after
    task_before Attach after on = may
    task_before Clear after e = (may, e)
    task_before Look after on = absurd on
    task_before Request after on = absurd on
    task_before Leave after on = absurd on
    task_before _ after e = task_after after e

    fits_task : (stage : Stage) → Waits stage → FitsTask y stage
    fits_task Looks w = may
    fits_task (Passes g after) w = task_before g.passage after w
    fits_task (Forwards w) e = task_after w.after e
    fits_task (Recalls r after) e = task_after after e
    fits_task _ w = absurd w

    with_it : (n mutators k : ℕ) → Waits x.stage → Fits n mutators k x → Fits n mutators k y
    with_it n mutators k w f = record {
      worker = f.worker;
      end = f.end;
      side = f.side;
      task = fits_task x.stage w;
      stage = fits_stage x.stage w f.stage;
    }

pub tasks_may_begin : TasksMayBegin
tasks_may_begin n mutators k x task f idle may =
    let w = waits x idle x.stage f.task f.end f.side in
    record { same = known x task x.stage w; saver = saves x task x.stage w; layout = refl; fits = λ f. with_it x task may n mutators k w f }
