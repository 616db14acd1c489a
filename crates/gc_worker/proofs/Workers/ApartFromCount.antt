-- A worker with another count of its instructions wants, tells and becomes the same, and is as sound.
use Rattle.std.proofs.Common.{◌≡◌, ℕ, ◌+◌, Bool, true, false, cond, Option, Some, None, Result, Ok, refl, ap, sym, ◌∙◌}
use Rattle.plain_state.specs.declared.end.End.{End}
use Rattle.mutator_asm.specs.declared.instr.Instr.{Instr}
use Rattle.plain_heap.specs.declared.action.Action.{Action}
use Rattle.plain_heap.specs.declared.action.Action.TheVariants.{Sets, Makes, Snaps}
use Rattle.plain_heap.specs.Action.{action}
use Rattle.space_map.specs.declared.gate_word.GateWord.{GateWord}
use Rattle.space_map.specs.GateWord.{decode_gate}
use Rattle.atom_store.specs.declared.reply.Reply.{Reply}
use Rattle.atom_store.specs.declared.reply.Reply.TheVariants as replies
use Rattle.atom_store.specs.declared.turn.Turn.{Turn}
use Rattle.atom_store.specs.declared.turn.Turn.TheVariants.{More, Finished}
use Rattle.alloc_end.specs.declared.allocated.Allocated.{Allocated}
use Rattle.alloc_end.specs.declared.allocated.Allocated.TheVariants.{Placed, Full}
use Rattle.alloc_end.specs.declared.shortage.Shortage.{Shortage}
use Rattle.alloc_end.specs.Place as place
use Rattle.fault_duty.specs.Duty as duty
use Rattle.forwarding.specs.declared.to.To.{To}
use Rattle.forwarding.specs.Evacuation as evac
use Rattle.forwarding.specs.Taken as evac_taken
use Rattle.gate_core.specs.declared.flipped.Flipped.{Flipped}
use Rattle.gate_core.specs.declared.passage.Passage.{Passage}
use Rattle.gate_core.specs.declared.passage.Passage.TheVariants.{Look, Attach, Park, Request, Leave, Clear}
use Rattle.gate_core.specs.Gate as gate
use Rattle.gate_core.specs.Flip as flip
use Rattle.gate_core.specs.Recall as recall
use Rattle.gate_core.specs.Snap as snap
use Rattle.page_saves.specs.Guard as guard
use Rattle.page_saves.specs.SaveRound as save_round
use Rattle.page_scan.specs.Taken as scan_taken
use Rattle.page_slots.specs.Open as open_page
use Rattle.record_access.specs.declared.access_stage.AccessStage.{AccessStage}
use Rattle.gc_worker.specs.declared.stage.after.After.{After}
use Rattle.gc_worker.specs.declared.stage.after.After.TheVariants as afters
use Rattle.gc_worker.specs.declared.stage.back.Back.{Back}
use Rattle.gc_worker.specs.declared.stage.back.Back.TheVariants.{ToAccess, ToTarget, ToPlace, ToSnap, ToScanner}
use Rattle.gc_worker.specs.declared.stage.goal.Goal.{Goal}
use Rattle.gc_worker.specs.declared.stage.goal.Goal.TheVariants.{ForFlip, ForSnap, ForScanner}
use Rattle.gc_worker.specs.declared.stage.write.Write.{Write}
use Rattle.gc_worker.specs.declared.stage.write.Write.TheVariants.{OfAccess, OfPlace}
use Rattle.gc_worker.specs.declared.stage.Stage.{Stage}
use Rattle.gc_worker.specs.declared.stage.Stage.TheVariants.{Looks, Passes, Flips, Forwards, Accesses, Places, Serves, Scans, Evacuates, Opens, Recalls, Guards, Checkpoints, BeginsCheckpoint, Gone}
use Rattle.gc_worker.specs.declared.calls.did.Did.TheVariants.{Done}
use Rattle.gc_worker.specs.declared.task.Task.{Task}
use Rattle.gc_worker.specs.declared.task.Task.TheVariants.{Calls, Stops}
use Rattle.record_access.specs.Access as access
use Rattle.gc_worker.specs.Workers.Counted.{counted, count_after, CountsAreApart, CountedFit}
use Rattle.gc_worker.specs.Workers.Fits.{ExecutesAction, Fits, FitsCall, FitsTask, FitsTaskAfter, FitsTaskAsking, FitsTaskBack, FitsTaskBefore, FitsTaskFor, FitsTaskWrite, IsAccessing, IsMaking, MayBegin}
use Rattle.gc_worker.specs.Workers.Held.{Held, at_stage, may_snap}
use Rattle.gc_worker.specs.Plain.Seen.{making_in, seen}
use Rattle.gc_worker.specs.Steps.Turned.{Answers, Silent, Told, acted, begins, looked_by, passes, serves_snap, started, told_acted, told_at, told_full, told_gate, told_place, told_start, turned_at, turned_flip, turned_register, went_on, with_evac, told_round, turned_round}
use Rattle.gc_worker.specs.Steps.Wanted.{wanted_at}
use Rattle.gc_worker.proofs.Workers.CountedTurns.{accessing, copying, flip_count, flipping, gating, guarding, opening, placed, placing, recalling, same_acts, same_asked, same_header, saving_round, scanning, serving, snapping, same_fields}
use Rattle.gc_worker.proofs.Plain.Quiet.{quiet_counts, rounds_are_quiet}
use Rattle.gc_worker.proofs.Workers.Fitting.{fits_stage}
use Rattle.fault_duty.specs.declared.round_end.RoundEnd.{RoundEnd}

-- ---- a look

module _ (count : ℕ) (x : Held) where
  -- a checkpoint is begun later, or cannot be begun
  snapping_by : (task : Task) (b : Bool) → cond b (counted count (at_stage (begins x) (serves_snap (begins x)))) (counted (count + 1) (went_on (begins x)))
      ≡ counted (count_after count (cond b Silent (Answers task Done))) (cond b (at_stage (begins x) (serves_snap (begins x))) (went_on (begins x)))
  snapping_by task true = refl
  snapping_by task false = refl

  acting : (instr : Instr) (o : Result Action End) → acted (begins (counted count x)) o ≡ counted (count_after count (told_acted x (Calls instr) o)) (acted (begins x) o)
  acting instr (Ok Snaps) = snapping_by (Calls instr) (may_snap x)
  acting instr (Ok (Makes kind d n v)) = ap (λ (stage : Stage). counted count (at_stage (begins x) stage)) (placing count (begins x))
  acting instr _ = refl

  starting : (task : Option Task) → started (counted count x) task ≡ counted (count_after count (told_start x task)) (started x task)
  starting None = refl
  starting (Some (Stops end)) = refl
  starting (Some (Calls instr)) = ap (acted (begins (counted count x))) (same_acts count x instr) ∙ acting instr (action (seen x.account x.registers) instr)

  requested : (b : Bool) (stage : Stage) → cond b (counted count (at_stage x stage)) (started (counted count x) x.task)
      ≡ counted (count_after count (cond b Silent (told_start x x.task))) (cond b (at_stage x stage) (started x x.task))
  requested true stage = refl
  requested false stage = starting x.task

  looking : (g : Option GateWord) → looked_by (counted count x) g ≡ counted (count_after count (told_gate x g)) (looked_by x g)
  looking None = refl
  looking (Some g) = requested g.request (passes x Park afters.Looks)

  acting_tells : (task : Task) (o : Result Action End) → told_acted (counted count x) task o ≡ told_acted x task o
  acting_tells task (Ok (Sets _ _)) = refl
  acting_tells task _ = refl

  starting_tells : (task : Option Task) → told_start (counted count x) task ≡ told_start x task
  starting_tells None = refl
  starting_tells (Some (Stops end)) = refl
  starting_tells (Some (Calls instr)) = ap (told_acted (counted count x) (Calls instr)) (same_acts count x instr) ∙ acting_tells (Calls instr) (action (seen x.account x.registers) instr)

  looking_tells : (g : Option GateWord) → told_gate (counted count x) g ≡ told_gate x g
  looking_tells None = refl
  looking_tells (Some g) = ap (λ (t : Told). cond g.request Silent t) (starting_tells x.task)

  -- ---- each stage

  turns_at : (stage : Stage) (reply : Reply) → FitsTask x stage → turned_at (counted count x) stage reply ≡ counted (count_after count (told_at x stage reply)) (turned_at x stage reply)
  turns_at Looks (replies.Value word) task = looking (decode_gate word)
  turns_at (Passes g after) reply task = gating count x (gate.taken g reply) after (gate.told (gate.taken g reply))
  turns_at (Flips f) reply task =
      let t : Turn Flipped = flip.told (flip.taken f reply) in
      flipping count x (flip.taken f reply) t ∙ ap (λ (n : ℕ). counted n (turned_flip x (flip.taken f reply) t)) (sym (flip_count count x t))
  turns_at (Forwards w) reply task = forwarding (evac_taken.told (evac_taken.taken w.evac reply).stage)
    where
      forwarding : (t : Turn To) → turned_register (counted count x) (with_evac w (evac_taken.taken w.evac reply)) t ≡ counted count (turned_register x (with_evac w (evac_taken.taken w.evac reply)) t)
      forwarding More = refl
      forwarding (Finished to) = refl
  turns_at (Accesses a) reply task = accessing count x (access.taken a reply) task.executes.instr task.executes.task_is (access.told a reply)
  turns_at (Places p) reply task = placed count x (place.taken p reply) task.0 (place.told (place.taken p reply))
  turns_at (Serves d back) reply task =
      let t : Turn RoundEnd = duty.told (duty.taken d reply) in
      serving count x (duty.taken d reply) back t
      ∙ ap (λ (n : ℕ). counted n (turned_round x (duty.taken d reply) back t)) (sym (quiet_counts count (told_round t) (rounds_are_quiet t)))
  turns_at (Scans s back) reply task = scanning count x (scan_taken.taken s reply) back (scan_taken.told (scan_taken.taken s reply).stage)
  turns_at (Evacuates v s back) reply task = copying count x (evac_taken.taken v reply) s back (evac_taken.told (evac_taken.taken v reply).stage)
  turns_at (Opens o s back) reply task = opening count x (open_page.taken o reply) s back (open_page.told (open_page.taken o reply))
  turns_at (Recalls r after) reply task = recalling count x (recall.taken r reply) after (recall.told (recall.taken r reply))
  turns_at (Guards g write) reply task = guarding count x (guard.taken g reply) write (guard.told (guard.taken g reply))
  turns_at (Checkpoints r goal) reply task = saving_round count x (save_round.taken r reply) goal (save_round.told (save_round.taken r reply))
  turns_at (BeginsCheckpoint s) reply task = snapping count x (snap.taken s reply) task.instr task.task_is (snap.told (snap.taken s reply))
  turns_at _ _ task = refl

  tells_at : (stage : Stage) (reply : Reply) → told_at (counted count x) stage reply ≡ told_at x stage reply
  tells_at Looks (replies.Value word) = looking_tells (decode_gate word)
  tells_at (Places p) reply = placed_tells (place.told (place.taken p reply))
    where
      full_tells : (s : Shortage) (traced : Bool) → told_full (counted count x) s traced ≡ told_full x s traced
      full_tells s true = refl
      full_tells s false = refl

      placed_tells : (t : Turn Allocated) → told_place (counted count x) t ≡ told_place x t
      placed_tells More = refl
      placed_tells (Finished (Placed at)) = refl
      placed_tells (Finished (Full s)) = full_tells s s.traced
  tells_at _ _ = refl

  wants_at : (stage : Stage) → wanted_at (counted count x) stage ≡ wanted_at x stage
  wants_at Looks = refl
  wants_at _ = refl

pub counts_are_apart : CountsAreApart
counts_are_apart n mutators k count x f = record {
  wants = wants_at count x x.stage;
  tells = λ reply. tells_at count x x.stage reply;
  turns = λ reply. turns_at count x x.stage reply f.task;
}

-- ---- its soundness

module _ (count : ℕ) (x : Held) where
  abbrev z : Held
  z = counted count x

  calling : (instr : Instr) → FitsCall x.account x.registers instr → FitsCall z.account z.registers instr
  calling instr c = record { valid = c.valid; serial = λ m e. c.serial m (sym (ap making_in (same_acts count x instr)) ∙ e) }

  executing : (act : Action) → ExecutesAction x.account x.registers x.task act → ExecutesAction z.account z.registers z.task act
  executing act e = record { instr = e.instr; task_is = e.task_is; call = calling e.instr e.call; acts = same_acts count x e.instr ∙ e.acts }

  making : IsMaking x.account x.registers x.task → IsMaking z.account z.registers z.task
  making m = record { making = m.making; value = m.value; executes = executing _ m.executes }

  accesses : (stage : AccessStage) → IsAccessing x.account x.registers x.task stage → IsAccessing z.account z.registers z.task stage
  accesses stage a = record { act = a.act; executes = executing a.act a.executes; is = a.is }

  pub beginning : (task : Option Task) → MayBegin x.account x.registers task → MayBegin z.account z.registers task
  beginning None may = tt
  beginning (Some (Calls instr)) call = calling instr call
  beginning (Some (Stops end)) may = may

  task_after : (after : After) → FitsTaskAfter x after → FitsTaskAfter z after
  task_after afters.Looks task = beginning x.task task
  task_after afters.Places task = making task
  task_after afters.Snaps task = executing _ task

  task_asking : (after : After) → FitsTaskAsking x after → FitsTaskAsking z after
  task_asking afters.Looks task = task
  task_asking afters.Places task = making task
  task_asking afters.Snaps task = executing _ task

  task_back : (back : Back) → FitsTaskBack x back → FitsTaskBack z back
  task_back (ToAccess a) task = accesses a.stage task
  task_back (ToTarget a) task = accesses a.stage task
  task_back ToPlace task = making task
  task_back ToSnap task = (executing _ task.0, task.1)
  task_back ToScanner task = task

  task_before : (passage : Passage) (after : After) → FitsTaskBefore x passage after → FitsTaskBefore z passage after
  task_before Leave after task = task
  task_before Request after task = task_asking after task
  task_before Attach after task = beginning x.task task
  task_before Clear after task = (beginning x.task task.0, task.1)
  task_before Look after task = task
  task_before _ after task = task_after after task

  task_write : (write : Write) → FitsTaskWrite x write → FitsTaskWrite z write
  task_write (OfAccess a) task = accesses a.stage task
  task_write (OfPlace p) task = (making task.0, same_header count x ∙ task.1)

  task_for : (goal : Goal) → FitsTaskFor x goal → FitsTaskFor z goal
  task_for ForFlip task = making task
  task_for ForSnap task = executing _ task
  task_for ForScanner task = task

  fits_task : (stage : Stage) → FitsTask x stage → FitsTask z stage
  fits_task Looks task = beginning x.task task
  fits_task (Passes g after) task = task_before g.passage after task
  fits_task (Flips f) task = (making task.0, task.1 ∙ sym (same_asked count x))
  fits_task (Forwards w) task = task_after w.after task
  fits_task (Accesses a) task = accesses a.stage task
  fits_task (Places p) task = (making task.0, same_header count x ∙ task.1)
  fits_task (Serves d back) task = task_back back task
  fits_task (Scans s back) task = task_back back task
  fits_task (Evacuates v s back) task = task_back back task
  fits_task (Opens o s back) task = task_back back task
  fits_task (Recalls r after) task = task_after after task
  fits_task (Guards g write) task = task_write write task
  fits_task (Checkpoints r goal) task = task_for goal task
  fits_task (BeginsCheckpoint s) task = executing _ task
  fits_task Gone task = task

  fits_so : (n mutators k : ℕ) → Fits n mutators k x → Fits n mutators k z
  fits_so n mutators k f = record {
    worker = f.worker;
    end = f.end;
    side = f.side;
    task = fits_task x.stage f.task;
    stage = fits_stage x (record { account = z.account; registers = x.registers; task = x.task; stage = x.stage }) (same_fields count x) refl x.stage f.stage;
  }

pub counted_fit : CountedFit
counted_fit n mutators k count x = (fits_so x.account.executed (counted count x) n mutators k, fits_so count x n mutators k)
