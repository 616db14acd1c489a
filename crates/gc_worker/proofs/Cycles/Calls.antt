-- A mutator that has begun an instruction is in its call until it answers, or begins a checkpoint anew.
use Rattle.std.proofs.Common.{◌≡◌, ◌⊎◌, ℕ, ◌+◌, ◌-◌, ◌==◌, Bool, true, false, cond, nat_lt, Option, Some, None, is_some, inl, inr, refl, ap, sym, subst, ◌∙◌}
use Rattle.plain_state.specs.declared.end.End.{End}
use Rattle.record_layout.specs.declared.header.Header.{Header}
use Rattle.atom_store.specs.declared.reply.Reply.{Reply}
use Rattle.atom_store.specs.declared.turn.Turn.{Turn}
use Rattle.atom_store.specs.declared.turn.Turn.TheVariants.{More, Finished}
use Rattle.alloc_end.specs.declared.allocated.Allocated.{Allocated}
use Rattle.alloc_end.specs.declared.allocated.Allocated.TheVariants.{Placed, Full}
use Rattle.alloc_end.specs.declared.shortage.Shortage.{Shortage}
use Rattle.alloc_end.specs.Place as place
use Rattle.fault_duty.specs.declared.round_end.RoundEnd.{RoundEnd}
use Rattle.fault_duty.specs.declared.round_end.RoundEnd.TheVariants.{ScanPage, ScanInPlace, Marked, Traced, AllLeft, NothingNow}
use Rattle.fault_duty.specs.declared.caller.Caller.TheVariants as callers
use Rattle.fault_duty.specs.Duty as duty
use Rattle.forwarding.specs.declared.to.To.{To}
use Rattle.forwarding.specs.Evacuation as evac
use Rattle.forwarding.specs.Taken as evac_taken
use Rattle.gate_core.specs.declared.flipped.Flipped.{Flipped}
use Rattle.gate_core.specs.declared.flipped.Flipped.TheVariants as flipped
use Rattle.gate_core.specs.declared.passage.Passage.{Passage}
use Rattle.gate_core.specs.declared.passage.Passage.TheVariants.{Park, Request, Resume, Forwarded}
use Rattle.gate_core.specs.declared.passed.Passed.{Passed}
use Rattle.gate_core.specs.declared.passed.Passed.TheVariants as passed
use Rattle.gate_core.specs.Flip as flip
use Rattle.gate_core.specs.Gate as gate
use Rattle.gate_core.specs.declared.recall.recalled.Recalled.{Recalled}
use Rattle.gate_core.specs.declared.snap.snapped.Snapped.{Snapped}
use Rattle.gate_core.specs.declared.snap.snapped.Snapped.TheVariants as snapped
use Rattle.gate_core.specs.Recall as recall
use Rattle.gate_core.specs.Snap as snap
use Rattle.page_saves.specs.declared.may_write.MayWrite.{MayWrite}
use Rattle.page_saves.specs.declared.save_round_end.SaveRoundEnd.{SaveRoundEnd}
use Rattle.page_saves.specs.declared.save_round_end.SaveRoundEnd.TheVariants as save_round_end
use Rattle.page_saves.specs.Guard as guard
use Rattle.page_saves.specs.SaveRound as save_round
use Rattle.page_scan.specs.declared.scanned.Scanned.{Scanned}
use Rattle.page_scan.specs.declared.scanned.Scanned.TheVariants as scanned
use Rattle.page_scan.specs.Scanning as scan
use Rattle.page_scan.specs.Taken as scan_taken
use Rattle.page_slots.specs.declared.opened.Opened.{Opened}
use Rattle.page_slots.specs.Open as open_page
use Rattle.gc_worker.specs.Workers.Begun.{IsPastAfter, IsPastBack, IsPastGoal}
use Rattle.gc_worker.specs.Laws.Between.{IsNoAnswer}
use Rattle.gc_worker.specs.Laws.Cycles.{CallsGoOn, IsInCall, IsInPassage, snaps_after, snaps_at, snaps_back, snaps_for}
use Rattle.record_access.specs.declared.access.Access.{Access}
use Rattle.record_access.specs.declared.accessed.Accessed.{Accessed}
use Rattle.record_access.specs.declared.accessed.Accessed.TheVariants.{Faults, Awaits, Brings, Stored, Fails}
use Rattle.gc_worker.specs.declared.stage.after.After.{After}
use Rattle.gc_worker.specs.declared.stage.after.After.TheVariants as afters
use Rattle.gc_worker.specs.declared.stage.back.Back.{Back}
use Rattle.gc_worker.specs.declared.stage.back.Back.TheVariants.{ToAccess, ToTarget, ToPlace, ToSnap, ToScanner}
use Rattle.gc_worker.specs.declared.stage.goal.Goal.{Goal}
use Rattle.gc_worker.specs.declared.stage.goal.Goal.TheVariants.{ForFlip, ForSnap, ForScanner}
use Rattle.gc_worker.specs.declared.stage.write.Write.{Write}
use Rattle.gc_worker.specs.declared.stage.write.Write.TheVariants.{OfAccess, OfPlace}
use Rattle.gc_worker.specs.declared.stage.forwarding_register.ForwardingRegister.{ForwardingRegister}
use Rattle.gc_worker.specs.declared.stage.Stage.{Stage}
use Rattle.gc_worker.specs.declared.stage.Stage.TheVariants.{Looks, Passes, Flips, Forwards, Accesses, Places, Serves, Scans, Evacuates, Opens, Recalls, Guards, Checkpoints, BeginsCheckpoint, Gone}
use Rattle.gc_worker.specs.declared.task.Task.{Task}
use Rattle.gc_worker.specs.declared.task.Task.TheVariants.{Calls}
use Rattle.record_access.specs.Access as access
use Rattle.gc_worker.specs.Workers.Fits.{Fits, FitsEnd, FitsTask, FitsTaskAfter, FitsTaskBack, FitsTaskBefore, IsGoneBy, IsMaking, IsOnSide, IsOnSideBack}
use Rattle.gc_worker.specs.Workers.Held.{Held, at_stage, fields_for, header_for, may_snap, run_held, target_for}
use Rattle.gc_worker.specs.Steps.Turned.{Pointed, Silent, after_request, asks_flip, checkpoints, end_by_shortage, ended, epoch_said, first_pointer, forwards_from, forwards_it, full_by, goes_back, goes_on, guards, is_full, passed_by, passes, places, recalled, rounded, served_by, serves_snap, told_access, told_at, told_effect, told_end, told_full, told_place, told_snap, traced_by, turned_access, turned_at, turned_copy, turned_flip, turned_gate, turned_guard, turned_opening, turned_place, turned_recall, turned_register, turned_round, turned_save_round, turned_scan, turned_snap, with_copy, with_evac, writes}
use Rattle.gc_worker.proofs.Plain.NewRecords.{header_is, header_made}

-- ---- where it goes on

-- From a call, of which this says whether it begins a checkpoint, a mutator comes to this stage.
abbrev Stays : Bool → Stage → Type 0
Stays snaps now = IsInCall now × (snaps ≡ false → snaps_at now ≡ false)

-- or it begins its instruction anew
abbrev Goes : Bool → Held → Type 0
Goes snaps now = Stays snaps now.stage ⊎ ((snaps ≡ true) × (now.stage ≡ Looks) × (may_snap now ≡ false))

either : (snaps b : Bool) (s t : Stage) → Stays snaps s → Stays snaps t → Stays snaps (cond b s t)
either snaps true s t is other = is
either snaps false s t is other = other

-- with a look before a write, or without
guarding : (x : Held) (snaps : Bool) (write : Write) (page : Option ℕ) (stage : Stage) → Stays snaps stage → Stays snaps (guards x write page stage)
guarding x snaps write None stage is = is
guarding x snaps write (Some page) stage is = either snaps (x.running == 0) stage (Guards (guard.begun x.layout page x.running x.number) write) is (tt, λ e. refl)

-- who makes a record has its header
placing : (x y : Held) (snaps : Bool) → IsMaking x.account x.registers x.task → header_for y ≡ header_for x → Stays snaps (places y (header_for y))
placing x y snaps making same =
    subst (λ (o : Option Header). Stays snaps (places y o)) (sym (same ∙ header_is x making))
    (guarding y snaps (OfPlace (begins y)) (place.writes_on (begins y) (begins y).stage) (Places (begins y)) (tt, λ e. refl))
  where
    begins : Held → place.Placing
    begins y = place.begun y.layout (run_held y) (header_made x making) y.epoch (fields_for y) y.snap (target_for y)

-- of who begins a checkpoint, if there is a number for it
snapping : (x : Held) (b : Bool) → may_snap x ≡ b → Goes true (at_stage x (cond b (serves_snap x) Looks))
snapping x true e = inl (tt, λ e. absurd (cc))
snapping x false e = inr (refl, refl, e)

going_on : (x : Held) (after : After) → IsPastAfter after → FitsTaskAfter x after → Goes (snaps_after after) (at_stage x (goes_on x after))
going_on x afters.Looks past task = absurd past
going_on x afters.Places past task = inl (placing x x false task refl)
going_on x afters.Snaps past task = snapping x (may_snap x) refl

running_on : (x : Held) (after : After) (b : Bool) → IsPastAfter after → FitsTaskAfter x after
    → Goes (snaps_after after) (at_stage x (cond b (Recalls (recall.begun x.layout) after) (goes_on x after)))
running_on x after true past task = inl (past, λ e. e)
running_on x after false past task = going_on x after past task

going_back : (x : Held) (epoch : ℕ) (back : Back) → IsPastBack back → FitsTaskBack x back → Stays (snaps_back back) (goes_back (record x { epoch = epoch }) back)
going_back x epoch (ToAccess a) past task = (tt, λ e. refl)
going_back x epoch (ToTarget a) past task = (tt, λ e. refl)
going_back x epoch ToPlace past task = placing x (record x { epoch = epoch }) false task refl
going_back x epoch ToSnap past task = (tt, λ e. e)
going_back x epoch ToScanner past task = absurd past

forwarding : (x : Held) (after : After) (o : Option Pointed) → IsPastAfter after → Stays (snaps_after after) (forwards_it x after o)
forwarding x after (Some p) past = (past, λ e. e)
forwarding x after None past = (past, λ e. e)

-- a task that is done is answered
answers_done : (o : Option Task) (task : Task) → o ≡ Some task → IsNoAnswer (told_effect o) → ⊥
answers_done o task is none = subst (λ (t : Option Task). IsNoAnswer (told_effect t)) is none

answers_end : (o : Option Task) (task : Task) (end : End) → o ≡ Some task → IsNoAnswer (told_end o end) → ⊥
answers_end o task end is none = subst (λ (t : Option Task). IsNoAnswer (told_end t end)) is none

module _ (x : Held) where
  -- ---- at the gate

  -- the request is its own
  asking : (after : After) → IsPastAfter after → Stays (snaps_after after) (after_request x after)
  asking afters.Looks past = absurd past
  asking afters.Places past = (tt, λ e. refl)
  asking afters.Snaps past = (tt, λ e. e)

  passed_on : (after : After) (passage : Passage) (result : Passed) → FitsTaskBefore x passage after → IsInPassage passage after → Stays (snaps_after after) x.stage
      → Goes (snaps_after after) (passed_by x after passage result)
  passed_on after Park (passed.Went word) task past own = inl (past, λ e. e)
  passed_on after Park (passed.NotYet word) task past own = going_on x after past task
  passed_on after Request (passed.Went word) task past own = inl (asking after past)
  passed_on after Request (passed.NotYet word) task past own = inl (past, λ e. e)
  passed_on after (Resume epoch) (passed.Went word) task past own = running_on x after x.layout.checkpoints past task
  passed_on after (Resume epoch) (passed.NotYet word) task past own =
      inl (either (snaps_after after) (nat_lt x.epoch (epoch_said x.epoch word)) (forwards_from x after 0) (passes x (Resume x.epoch) after)
      (forwarding x after (first_pointer x.registers 8 0) past) (past, λ e. e))
  passed_on after Forwarded (passed.Went word) task past own = inl (past, λ e. e)
  passed_on after Forwarded (passed.NotYet word) task past own = inl own
  passed_on after _ result task past own = absurd past

  passing : (g : gate.Passing) (after : After) (turn : Turn Passed) → FitsTaskBefore x g.passage after → IsInPassage g.passage after → Stays (snaps_after after) x.stage
      → Goes (snaps_after after) (turned_gate x g after turn)
  passing g after More task past own = inl (past, λ e. e)
  passing g after (Finished result) task past own = passed_on after g.passage result task past own

  -- what it has read of checkpoints
  recalling : (r : recall.Recalling) (after : After) (turn : Turn Recalled) → IsPastAfter after → FitsTaskAfter x after → Goes (snaps_after after) (turned_recall x r after turn)
  recalling r after More past task = inl (past, λ e. e)
  recalling r after (Finished result) past task = going_on (recalled x result) after past (read_task after task)
    where
      read_task : (after : After) → FitsTaskAfter x after → FitsTaskAfter (recalled x result) after
      read_task afters.Looks task = task
      read_task _ task = task

  flipping : (f : flip.Flipping) (turn : Turn Flipped) → Stays false (turned_flip x f turn).stage
  flipping f More = (tt, λ e. refl)
  flipping f (Finished (flipped.Went asked)) = (tt, λ e. refl)
  flipping f (Finished (flipped.NotYet word)) = (tt, λ e. refl)

  registers : (w : ForwardingRegister) (turn : Turn To) → IsPastAfter w.after → Stays (snaps_after w.after) (turned_register x w turn).stage
  registers w More past = (past, λ e. e)
  registers w (Finished to) past =
      let y = with_copy x w.register to.0 in
      forwarding y w.after (first_pointer y.registers (8 - (w.register + 1)) (w.register + 1)) past

  -- ---- looks before a write, and rounds for a checkpoint

  writing : (write : Write) → Stays false (writes write)
  writing (OfAccess a) = (tt, λ e. refl)
  writing (OfPlace p) = (tt, λ e. refl)

  looking : (g : guard.Guarding) (write : Write) (turn : Turn MayWrite) → Stays false (turned_guard x g write turn).stage
  looking g write More = (tt, λ e. refl)
  looking g write (Finished result) = writing write

  rounded_on : (goal : Goal) (result : SaveRoundEnd) → IsPastGoal goal → Stays (snaps_for goal) (rounded x goal result)
  rounded_on ForScanner result past = absurd past
  rounded_on ForFlip (save_round_end.NoneRuns _) past = (tt, λ e. refl)
  rounded_on ForFlip _ past = (tt, λ e. refl)
  rounded_on ForSnap (save_round_end.NoneRuns _) past = (tt, λ e. e)
  rounded_on ForSnap _ past = (tt, λ e. e)

  saving : (r : save_round.SavingRound) (goal : Goal) (turn : Turn SaveRoundEnd) → IsPastGoal goal → Stays (snaps_for goal) (turned_save_round x r goal turn).stage
  saving r goal More past = (past, λ e. e)
  saving r goal (Finished result) past = rounded_on goal result past

  -- ---- an access, an allocation

  module _ (task : Task) (is : x.task ≡ Some task) where
    faulting : (a : Access) (page : ℕ) (target : Bool) → Stays false (Serves (duty.begun x.layout (callers.Faulted page) x.epoch x.number) (cond target (ToTarget a) (ToAccess a)))
    faulting a page true = (tt, λ e. refl)
    faulting a page false = (tt, λ e. refl)

    accessing : (a : Access) (turn : Turn Accessed) → IsNoAnswer (told_access x.task turn) → Stays false (turned_access x a turn).stage
    accessing a More none = guarding x false (OfAccess a) (access.writes_on a.spaces a.stage) (Accesses a) (tt, λ e. refl)
    accessing a (Finished (Faults page)) none = faulting a page (access.is_at_target a.stage)
    accessing a (Finished Awaits) none = (tt, λ e. refl)
    accessing a (Finished (Brings into word)) none = absurd (answers_done x.task task is none)
    accessing a (Finished Stored) none = absurd (answers_done x.task task is none)
    accessing a (Finished (Fails why)) none = absurd (answers_end x.task task why is none)

    full_on : (s : Shortage) (b : Bool) → IsNoAnswer (cond b (told_end x.task (end_by_shortage s)) Silent) → Stays false (cond b (ended x (end_by_shortage s)) (at_stage x (asks_flip x))).stage
    full_on s true none = absurd (answers_end x.task task (end_by_shortage s) is none)
    full_on s false none = either false x.layout.checkpoints (checkpoints x ForFlip) (passes x Request afters.Places) (tt, λ e. refl) (tt, λ e. refl)

    shortage_on : (s : Shortage) (traced : Bool) → IsNoAnswer (told_full x s traced) → Stays false (full_by x s traced).stage
    shortage_on s false none = (tt, λ e. refl)
    shortage_on s true none = full_on s (is_full x s) none

    placing_on : (p : place.Placing) (turn : Turn Allocated) → IsNoAnswer (told_place x turn) → Stays false (turned_place x p turn).stage
    placing_on p More none = guarding x false (OfPlace p) (place.writes_on p p.stage) (Places p) (tt, λ e. refl)
    placing_on p (Finished (Placed at)) none = absurd (answers_done x.task task is none)
    placing_on p (Finished (Full s)) none = shortage_on s s.traced none

    -- the beginning of a checkpoint
    beginning : (s : snap.Snapping) (turn : Turn Snapped) → IsNoAnswer (told_snap x.task turn) → Stays true (turned_snap x s turn).stage
    beginning s More none = (tt, λ e. e)
    beginning s (Finished (snapped.Begun seen)) none = absurd (answers_done x.task task is none)
    beginning s (Finished (snapped.NotYet word)) none = (tt, λ e. e)

  -- ---- rounds and scans

  -- a mutator that has no end is not gone
  not_gone : (back : Back) → IsPastBack back → (mutator ended : Bool) → IsOnSideBack back mutator → ended ≡ false → IsGoneBy mutator ended → ⊥
  not_gone ToScanner past mutator ended side end gone = past
  not_gone _ past mutator ended side end gone = let e : ended ≡ true = subst (λ (b : Bool). IsGoneBy b ended) side gone in let f = sym end ∙ e in cc

  -- its epoch was found traced: who begins a checkpoint makes rounds for the one in progress
  traced_on : (epoch : ℕ) (back : Back) → IsPastBack back → FitsTaskBack x back → Stays (snaps_back back) (traced_by (record x { epoch = epoch }) back).stage
  traced_on epoch (ToAccess a) past task = going_back x epoch (ToAccess a) past task
  traced_on epoch (ToTarget a) past task = (tt, λ e. refl)
  traced_on epoch ToPlace past task = going_back x epoch ToPlace past task
  traced_on epoch ToSnap past task = (tt, λ e. e)
  traced_on epoch ToScanner past task = absurd past

  module _ (n mutators k : ℕ) (end : is_some x.account.end ≡ false) where
    served_on : (d : duty.Round) (back : Back) (result : RoundEnd) → IsPastBack back → FitsTaskBack x back → IsOnSideBack back (nat_lt x.number x.mutators)
        → Fits n mutators k (served_by x d back result) → Stays (snaps_back back) (served_by x d back result).stage
    served_on d back (ScanPage page) past task side after = (past, λ e. e)
    served_on d back (ScanInPlace page) past task side after = (past, λ e. e)
    served_on d back Marked past task side after = going_back x d.epoch back past task
    served_on d back Traced past task side after = traced_on d.epoch back past task
    served_on d back (NothingNow word) past task side after = going_back x d.epoch back past task
    served_on d back (AllLeft word) past task side after = absurd (not_gone back past (nat_lt x.number x.mutators) (is_some x.account.end) side end after.side)

    serving : (d : duty.Round) (back : Back) (turn : Turn RoundEnd) → IsPastBack back → FitsTaskBack x back → IsOnSideBack back (nat_lt x.number x.mutators)
        → Fits n mutators k (turned_round x d back turn) → Stays (snaps_back back) (turned_round x d back turn).stage
    serving d back More past task side after = (past, λ e. e)
    serving d back (Finished result) past task side after = served_on d back result past task side after

  scanning : (s : scan.Scanning) (back : Back) (turn : Turn Scanned) → IsPastBack back → Stays (snaps_back back) (turned_scan x s back turn).stage
  scanning s back More past = (past, λ e. e)
  scanning s back (Finished (scanned.Ask old)) past = (past, λ e. e)
  scanning s back (Finished (scanned.Ended at_front)) past = (past, λ e. e)

  copying : (v : evac.Evacuation) (s : scan.Scanning) (back : Back) (turn : Turn To) → IsPastBack back → Stays (snaps_back back) (turned_copy x v s back turn).stage
  copying v s back More past = (past, λ e. e)
  copying v s back (Finished to) past = (past, λ e. e)

  opening : (o : open_page.Opening) (s : scan.Scanning) (back : Back) (turn : Turn Opened) → IsPastBack back → FitsTaskBack x back → Stays (snaps_back back) (turned_opening x o s back turn).stage
  opening o s back More past task = (past, λ e. e)
  opening o s back (Finished opened) past task = going_back x x.epoch back past task

-- ---- each stage

module _ (n mutators k : ℕ) (x : Held) (reply : Reply) where
  by_stage : (stage : Stage) → x.stage ≡ stage → FitsTask x stage → FitsEnd stage (is_some x.account.end) → IsOnSide stage (nat_lt x.number x.mutators) (is_some x.account.end)
      → Fits n mutators k (turned_at x stage reply) → IsInCall stage → IsInCall x.stage → IsNoAnswer (told_at x stage reply) → Goes (snaps_at stage) (turned_at x stage reply)
  by_stage Looks e task end side after past own none = absurd past
  by_stage (Passes g after_it) e task end side after past own none =
      passing x (gate.taken g reply) after_it (gate.told (gate.taken g reply)) task past (own, λ f. ap snaps_at e ∙ f)
  by_stage (Flips f) e task end side after past own none = inl (flipping x (flip.taken f reply) (flip.told (flip.taken f reply)))
  by_stage (Forwards w) e task end side after past own none =
      inl (registers x (with_evac w (evac_taken.taken w.evac reply)) (evac_taken.told (evac_taken.taken w.evac reply).stage) past)
  by_stage (Accesses a) e task end side after past own none =
      inl (accessing x (Calls task.executes.instr) task.executes.task_is (access.taken a reply) (access.told a reply) none)
  by_stage (Places p) e task end side after past own none =
      inl (placing_on x (Calls task.0.executes.instr) task.0.executes.task_is (place.taken p reply) (place.told (place.taken p reply)) none)
  by_stage (Serves d back) e task end side after past own none = inl (serving x n mutators k end (duty.taken d reply) back (duty.told (duty.taken d reply)) past task side after)
  by_stage (Scans s back) e task end side after past own none = inl (scanning x (scan_taken.taken s reply) back (scan_taken.told (scan_taken.taken s reply).stage) past)
  by_stage (Evacuates v s back) e task end side after past own none = inl (copying x (evac_taken.taken v reply) s back (evac_taken.told (evac_taken.taken v reply).stage) past)
  by_stage (Opens o s back) e task end side after past own none = inl (opening x (open_page.taken o reply) s back (open_page.told (open_page.taken o reply)) past task)
  by_stage (Recalls r after_it) e task end side after past own none = recalling x (recall.taken r reply) after_it (recall.told (recall.taken r reply)) past task
  by_stage (Guards g write) e task end side after past own none = inl (looking x (guard.taken g reply) write (guard.told (guard.taken g reply)))
  by_stage (Checkpoints r goal) e task end side after past own none = inl (saving x (save_round.taken r reply) goal (save_round.told (save_round.taken r reply)) past)
  by_stage (BeginsCheckpoint s) e task end side after past own none =
      inl (beginning x (Calls task.instr) task.task_is (snap.taken s reply) (snap.told (snap.taken s reply)) none)
  by_stage Gone e task end side after past own none = absurd past

pub calls_go_on : CallsGoOn
calls_go_on n mutators k x reply fits after past none = by_stage n mutators k x reply x.stage refl fits.task fits.end fits.side after past past none
