-- Who is in a call has begun it by a look.
use Rattle.std.proofs.Common.{◌≡◌, ℕ, Bool, true, false, cond, None, refl, sym, ◌∙◌, ap, subst}
use Rattle.atom_store.specs.declared.reply.Reply.{Reply}
use Rattle.atom_store.specs.declared.turn.Turn.{Turn}
use Rattle.atom_store.specs.declared.turn.Turn.TheVariants.{Finished, More}
use Rattle.gate_core.specs.declared.passage.Passage.{Passage}
use Rattle.gate_core.specs.declared.passage.Passage.TheVariants.{Attach, Clear, Forwarded, Leave, Look, Park, Request, Resume}
use Rattle.gate_core.specs.declared.passed.Passed.{Passed}
use Rattle.gate_core.specs.declared.passed.Passed.TheVariants as passed
use Rattle.gate_core.specs.Gate as gate
use Rattle.gate_core.specs.Recall as recall
use Rattle.gc_worker.specs.declared.stage.after.After.{After}
use Rattle.gc_worker.specs.declared.stage.after.After.TheVariants as afters
use Rattle.gc_worker.specs.declared.stage.back.Back.{Back}
use Rattle.gc_worker.specs.declared.stage.back.Back.TheVariants.{ToScanner, ToSnap}
use Rattle.gc_worker.specs.declared.stage.goal.Goal.{Goal}
use Rattle.gc_worker.specs.declared.stage.goal.Goal.TheVariants.{ForFlip, ForScanner, ForSnap}
use Rattle.gc_worker.specs.declared.stage.write.Write.{Write}
use Rattle.gc_worker.specs.declared.stage.write.Write.TheVariants.{OfAccess, OfPlace}
use Rattle.gc_worker.specs.declared.calls.did.Did.{Did}
use Rattle.gc_worker.specs.declared.stage.Stage.{Stage}
use Rattle.gc_worker.specs.declared.stage.Stage.TheVariants.{Accesses, BeginsCheckpoint, Checkpoints, Evacuates, Flips, Forwards, Gone, Guards, Looks, Opens, Passes, Places, Recalls, Scans, Serves}
use Rattle.gc_worker.specs.declared.task.Task.{Task}
use Rattle.gc_worker.specs.Workers.Begun.{IsPastAfter, IsPastBack, IsPastGoal, IsPastLook}
use Rattle.gc_worker.specs.Laws.Cycles.{IsInCall, IsInPassage}
use Rattle.gc_worker.specs.Workers.Fits.{Fits, FitsTask, FitsTaskAfter, FitsTaskAsking, FitsTaskBack, FitsTaskBefore, FitsTaskFor, FitsTaskWrite}
use Rattle.gc_worker.specs.Workers.Held.{Held}
use Rattle.gc_worker.specs.Steps.Turned.{Answers, passed_by, told_at, turned, turned_at, turned_gate}
use Rattle.gc_worker.specs.Laws.Between.{with_task}

-- ---- who has no task is in no call

module _ (x : Held) (none : x.task ≡ None) where
  none_after : (after : After) → FitsTaskAfter x after → IsPastAfter after → ⊥
  none_after afters.Looks f call = call
  none_after afters.Places f call = let some = f.executes.task_is in let never = sym none ∙ some in cc
  none_after afters.Snaps f call = let some = f.task_is in let never = sym none ∙ some in cc

  none_asking : (after : After) → FitsTaskAsking x after → IsPastAfter after → ⊥
  none_asking afters.Looks f call = call
  none_asking afters.Places f call = none_after afters.Places f call
  none_asking afters.Snaps f call = none_after afters.Snaps f call

  none_before : (passage : Passage) (after : After) → FitsTaskBefore x passage after → IsInPassage passage after → ⊥
  none_before Park after f call = none_after after f call
  none_before Request after f call = none_asking after f call
  none_before (Resume epoch) after f call = none_after after f call
  none_before Forwarded after f call = none_after after f call
  none_before _ after f call = call

  none_back : (back : Back) → FitsTaskBack x back → IsPastBack back → ⊥
  none_back ToSnap f call = let some = f.0.task_is in let never = sym none ∙ some in cc
  none_back ToScanner f call = call
  none_back _ f call = let some = f.executes.task_is in let never = sym none ∙ some in cc

  none_writing : (write : Write) → FitsTaskWrite x write → ⊥
  none_writing (OfAccess a) f = let some = f.executes.task_is in let never = sym none ∙ some in cc
  none_writing (OfPlace p) f = let some = f.0.executes.task_is in let never = sym none ∙ some in cc

  none_for : (goal : Goal) → FitsTaskFor x goal → IsPastGoal goal → ⊥
  none_for ForFlip f call = let some = f.executes.task_is in let never = sym none ∙ some in cc
  none_for ForSnap f call = let some = f.task_is in let never = sym none ∙ some in cc
  none_for ForScanner f call = call

  pub none_at : (stage : Stage) → FitsTask x stage → IsInCall stage → ⊥
  none_at Looks f call = call
  none_at (Passes g after) f call = none_before g.passage after f call
  none_at (Flips g) f call = let some = f.0.executes.task_is in let never = sym none ∙ some in cc
  none_at (Forwards w) f call = none_after w.after f call
  none_at (Accesses a) f call = let some = f.executes.task_is in let never = sym none ∙ some in cc
  none_at (Places p) f call = let some = f.0.executes.task_is in let never = sym none ∙ some in cc
  none_at (Serves d back) f call = none_back back f call
  none_at (Scans s back) f call = none_back back f call
  none_at (Evacuates v s back) f call = none_back back f call
  none_at (Opens o s back) f call = none_back back f call
  none_at (Recalls r after) f call = none_after after f call
  none_at (Guards g write) f call = none_writing write f
  none_at (Checkpoints r goal) f call = none_for goal f call
  none_at (BeginsCheckpoint s) f call = none_after afters.Snaps f tt
  none_at Gone f call = call

-- nor has it begun a task that it is given
pub given_none : (n mutators m : ℕ) (x now : Held) (task : Task) → Fits n mutators m x → x.task ≡ None → now ≡ with_task x task → IsInCall now.stage → ⊥
given_none n mutators m x now task fits none is call = none_at x none x.stage fits.task (subst IsInCall (ap (λ (z : Held). z.stage) is) call)

-- ---- who answers is in a call, or looks

pub answers_in_call : (x : Held) (reply : Reply) (task : Task) (did : Did) (stage : Stage) → told_at x stage reply ≡ Answers task did → IsPastLook stage → IsInCall stage
answers_in_call x reply task did (Passes g after) e past = absurd (let e = e in cc)
answers_in_call x reply task did _ e past = past

-- ---- who is in a call was in it before, unless it looked

module _ (x : Held) where
  -- who comes to the heap is in none
  comes_in : (r : recall.Recalling) (b : Bool) → IsInCall (cond b (Recalls r afters.Looks) Looks) → ⊥
  comes_in r true call = call
  comes_in r false call = call

  passed_in : (after : After) (passage : Passage) (result : Passed) → FitsTaskBefore x passage after → IsPastAfter after → (IsInCall x.stage → IsInPassage passage after)
      → IsInCall (passed_by x after passage result).stage → IsInPassage passage after
  passed_in after Look result task past own call = absurd task
  passed_in after Attach (passed.Went word) task past own call = comes_in (recall.begun x.layout) x.layout.checkpoints call
  passed_in after Attach (passed.NotYet word) task past own call = call
  passed_in after Leave (passed.Went word) task past own call = call
  passed_in after Leave (passed.NotYet word) task past own call = own call
  passed_in after Clear result task past own call = subst IsPastAfter task.1 past
  passed_in after _ result task past own call = past

  gate_in : (g : gate.Passing) (after : After) (turn : Turn Passed) → FitsTaskBefore x g.passage after → IsPastAfter after → (IsInCall x.stage → IsInPassage g.passage after)
      → IsInCall (turned_gate x g after turn).stage → IsInPassage g.passage after
  gate_in g after More task past own call = call
  gate_in g after (Finished result) task past own call = passed_in after g.passage result task past own call

  in_call_at : (reply : Reply) (stage : Stage) → x.stage ≡ stage → FitsTask x stage → IsPastLook stage → IsInCall (turned_at x stage reply).stage → IsInCall stage
  in_call_at reply (Passes g after) is task past call = gate_in (gate.taken g reply) after (gate.told (gate.taken g reply)) task past (λ own. subst IsInCall is own) call
  in_call_at reply _ is task past call = past

pub was_in_call : (n mutators m : ℕ) (x : Held) (reply : Reply) → Fits n mutators m x → IsPastLook x.stage → IsInCall (turned x reply).stage → IsInCall x.stage
was_in_call n mutators m x reply fits past call = in_call_at x reply x.stage refl fits.task past call
