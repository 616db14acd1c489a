-- When a mutator began its instruction: the epoch of that look is kept until it has answered.
use Rattle.std.proofs.Common.{◌≡◌, ℕ, ◌+◌, ◌-◌, ◌⊎◌, inl, inr, Bool, true, false, cond, nat_lt, Option, Some, None, Result, Ok, Err, refl, subst}
use Rattle.std.specs.Prelude.{⊤}
use Rattle.plain_state.specs.declared.end.End.TheVariants.{HeapFull}
use Rattle.plain_state.specs.declared.end.End.{End}
use Rattle.atom_store.specs.declared.reply.Reply.{Reply}
use Rattle.atom_store.specs.declared.reply.Reply.TheVariants as replies
use Rattle.atom_store.specs.declared.turn.Turn.{Turn}
use Rattle.atom_store.specs.declared.turn.Turn.TheVariants.{More, Finished}
use Rattle.space_map.specs.declared.gate_word.GateWord.{GateWord}
use Rattle.space_map.specs.GateWord.{decode_gate}
use Rattle.alloc_end.specs.declared.allocated.Allocated.{Allocated}
use Rattle.alloc_end.specs.declared.allocated.Allocated.TheVariants.{Placed, Full}
use Rattle.alloc_end.specs.declared.run.Run.{Run}
use Rattle.alloc_end.specs.declared.shortage.Shortage.{Shortage}
use Rattle.alloc_end.specs.Place as place
use Rattle.fault_duty.specs.declared.round_end.RoundEnd.{RoundEnd}
use Rattle.fault_duty.specs.declared.round_end.RoundEnd.TheVariants.{ScanPage, ScanInPlace, Marked, Traced, AllLeft, NothingNow}
use Rattle.fault_duty.specs.Duty as duty
use Rattle.forwarding.specs.declared.to.To.{To}
use Rattle.forwarding.specs.Evacuation as evac
use Rattle.forwarding.specs.Taken as evac_taken
use Rattle.gate_core.specs.declared.flipped.Flipped.{Flipped}
use Rattle.gate_core.specs.declared.flipped.Flipped.TheVariants as flipped
use Rattle.gate_core.specs.declared.passage.Passage.{Passage}
use Rattle.gate_core.specs.declared.passage.Passage.TheVariants.{Look, Attach, Park, Request, Resume, Forwarded, Leave, Clear}
use Rattle.gate_core.specs.declared.passed.Passed.{Passed}
use Rattle.gate_core.specs.declared.passed.Passed.TheVariants as passed
use Rattle.gate_core.specs.declared.recall.recalled.Recalled.{Recalled}
use Rattle.gate_core.specs.declared.snap.snapped.Snapped.{Snapped}
use Rattle.gate_core.specs.declared.snap.snapped.Snapped.TheVariants as snapped
use Rattle.gate_core.specs.Flip as flip
use Rattle.gate_core.specs.Gate as gate
use Rattle.gate_core.specs.Recall as recall
use Rattle.gate_core.specs.Snap as snap
use Rattle.page_saves.specs.declared.may_write.MayWrite.{MayWrite}
use Rattle.page_saves.specs.declared.save_round_end.SaveRoundEnd.{SaveRoundEnd}
use Rattle.page_saves.specs.Guard as guard
use Rattle.page_saves.specs.SaveRound as save_round
use Rattle.page_scan.specs.declared.scanned.Scanned.{Scanned}
use Rattle.page_scan.specs.declared.scanned.Scanned.TheVariants as scanned
use Rattle.page_scan.specs.Scanning as scan
use Rattle.page_scan.specs.Taken as scan_taken
use Rattle.page_slots.specs.declared.opened.Opened.{Opened}
use Rattle.page_slots.specs.Open as open_page
use Rattle.plain_heap.specs.declared.action.Action.{Action}
use Rattle.plain_heap.specs.declared.action.Action.TheVariants.{Snaps}
use Rattle.plain_heap.specs.Action.{action}
use Rattle.record_access.specs.declared.access.Access.{Access}
use Rattle.record_access.specs.declared.accessed.Accessed.{Accessed}
use Rattle.record_access.specs.declared.accessed.Accessed.TheVariants.{Faults}
use Rattle.gc_worker.specs.declared.stage.after.After.{After}
use Rattle.gc_worker.specs.declared.stage.after.After.TheVariants as afters
use Rattle.gc_worker.specs.declared.stage.back.Back.{Back}
use Rattle.gc_worker.specs.declared.stage.back.Back.TheVariants.{ToScanner}
use Rattle.gc_worker.specs.declared.stage.forwarding_register.ForwardingRegister.{ForwardingRegister}
use Rattle.gc_worker.specs.declared.stage.goal.Goal.{Goal}
use Rattle.gc_worker.specs.declared.stage.goal.Goal.TheVariants.{ForFlip, ForSnap, ForScanner}
use Rattle.gc_worker.specs.declared.stage.write.Write.{Write}
use Rattle.gc_worker.specs.declared.stage.Stage.{Stage}
use Rattle.gc_worker.specs.declared.stage.Stage.TheVariants.{Looks, Passes, Flips, Forwards, Accesses, Places, Serves, Scans, Evacuates, Opens, Recalls, Guards, Checkpoints, BeginsCheckpoint, Gone}
use Rattle.gc_worker.specs.declared.task.Task.{Task}
use Rattle.gc_worker.specs.declared.task.Task.TheVariants.{Calls, Stops}
use Rattle.record_access.specs.Access as access
use Rattle.gc_worker.specs.Laws.Between.{RestsAt}
use Rattle.gc_worker.specs.Workers.Begun.{IsPastAfter, IsPastBack, IsPastGoal, IsPastLook, BeginningsAreKept, FullIsFoundLater}
use Rattle.gc_worker.specs.Workers.Fits.{FitsTask, FitsTaskAsking, FitsTaskBefore, MayBegin, MayStop}
use Rattle.gc_worker.specs.Workers.Held.{Held, at_stage, making_for, may_snap}
use Rattle.gc_worker.specs.Plain.Seen.{Making, seen}
use Rattle.gc_worker.specs.declared.calls.did.Did.TheVariants.{Done, Trap}
use Rattle.gc_worker.specs.Steps.Turned.{Answers, Pointed, Silent, Told, acted, acts, asks_flip, begins, checkpoints, end_by_shortage, ended, epoch_said, first_pointer, forwards_from, forwards_it, full_by, goes_back, goes_on, in_epoch, is_full, looked_by, of_round, passed_by, passes, recalled, rounded, runs_on, served_by, serves_snap, started, told_acted, told_action, told_at, told_gate, told_look, told_start, traced_by, turned_access, turned_at, turned_copy, turned_flip, turned_gate, turned_guard, turned_look, turned_opening, turned_place, turned_recall, turned_register, turned_round, turned_save_round, turned_scan, turned_snap, went_on, with_copy, with_evac, with_record}
use Rattle.gc_worker.proofs.Stages.Look.StoppingInstructions.{Stops as StopsRight, action_stops}
use Rattle.gc_worker.proofs.Plain.Quiet.{IsQuiet, rounds_are_quiet}

-- ---- past the look

pasts : (P : Type 0) (b : Bool) (s t : Stage) → (IsPastLook s → P) → (IsPastLook t → P) → IsPastLook (cond b s t) → P
pasts P true s t left right = left
pasts P false s t left right = right

goes_on_so : (x : Held) (after : After) → IsPastLook (goes_on x after) → IsPastAfter after
goes_on_so x afters.Looks past = past
goes_on_so x afters.Places past = tt
goes_on_so x afters.Snaps past = tt

runs_on_so : (x : Held) (after : After) → IsPastLook (runs_on x after) → IsPastAfter after
runs_on_so x after past = pasts (IsPastAfter after) x.layout.checkpoints (Recalls (recall.begun x.layout) after) (goes_on x after) (λ p. p) (goes_on_so x after) past

goes_back_so : (x : Held) (back : Back) → IsPastLook (goes_back x back) → IsPastBack back
goes_back_so x ToScanner past = past
goes_back_so x _ past = tt

forwards_so : (x : Held) (after : After) (o : Option Pointed) → IsPastLook (forwards_it x after o) → IsPastAfter after
forwards_so x after (Some p) past = past
forwards_so x after None past = past

-- either of two workers began in this epoch
begun_if : (epoch : ℕ) (b : Bool) (y z : Held) → y.begun ≡ epoch → z.begun ≡ epoch → (cond b y z).begun ≡ epoch
begun_if epoch true y z is other = is
begun_if epoch false y z is other = other

module _ (x : Held) where
  -- a worker that comes past the look from a stage at which this is so keeps the epoch in which it began
  abbrev Kept : Type 0 → Held → Type 0
  Kept P y = IsPastLook y.stage → P × (y.begun ≡ x.begun)

  -- ---- at the gate

  passed_so : (after : After) (passage : Passage) (result : Passed) → (passage ≡ Request → IsPastAfter after) → (IsPastLook x.stage → IsPastAfter after) → Kept (IsPastAfter after) (passed_by x after passage result)
  passed_so after Attach (passed.Went word) asks own past = absurd (runs_on_so (in_epoch x (epoch_said x.epoch word)) afters.Looks past)
  passed_so after Park (passed.NotYet word) asks own past = (goes_on_so x after past, refl)
  passed_so after Request (passed.Went word) asks own past = (asks refl, refl)
  passed_so after (Resume epoch) (passed.Went word) asks own past = (runs_on_so x after past, refl)
  passed_so after (Resume epoch) (passed.NotYet word) asks own past =
      (pasts (IsPastAfter after) (nat_lt x.epoch (epoch_said x.epoch word)) (forwards_from x after 0) (passes x (Resume x.epoch) after) (forwards_so x after (first_pointer x.registers 8 0)) (λ p. p) past, refl)
  passed_so after Forwarded (passed.NotYet word) asks own past = (own past, refl)
  passed_so after Leave (passed.Went word) asks own past = absurd past
  passed_so after Leave (passed.NotYet word) asks own past = (own past, refl)
  passed_so after Look result asks own past = (own past, refl)
  passed_so after Clear (passed.NotYet word) asks own past = (own past, refl)
  passed_so after _ _ asks own past = (past, refl)

  passing_by : (g : gate.Passing) (after : After) (turn : Turn Passed) → (g.passage ≡ Request → IsPastAfter after) → (IsPastLook x.stage → IsPastAfter after) → Kept (IsPastAfter after) (turned_gate x g after turn)
  passing_by g after More asks own past = (past, refl)
  passing_by g after (Finished result) asks own past = passed_so after g.passage result asks own past

  flip_by : (f : flip.Flipping) (turn : Turn Flipped) → Kept ⊤ (turned_flip x f turn)
  flip_by f More past = (tt, refl)
  flip_by f (Finished (flipped.Went asked)) past = (tt, refl)
  flip_by f (Finished (flipped.NotYet word)) past = (tt, refl)

  register_by : (w : ForwardingRegister) (turn : Turn To) → Kept (IsPastAfter w.after) (turned_register x w turn)
  register_by w More past = (past, refl)
  register_by w (Finished to) past =
      (forwards_so (with_copy x w.register to.0) w.after (first_pointer (with_copy x w.register to.0).registers (8 - (w.register + 1)) (w.register + 1)) past, refl)

  -- ---- an access, an allocation

  access_by : (a : Access) (turn : Turn Accessed) → Kept ⊤ (turned_access x a turn)
  access_by a (Finished (Faults _)) past = (tt, refl)
  access_by a _ past = (tt, refl)

  shortage_by : (s : Shortage) (traced : Bool) → (full_by x s traced).begun ≡ x.begun
  shortage_by s false = refl
  shortage_by s true = begun_if x.begun (is_full x s) (ended x (end_by_shortage s)) (at_stage x (asks_flip x)) refl refl

  placed_by : (run : Run) (at : ℕ) (made : Option Making) → (with_record x run at made).begun ≡ x.begun
  placed_by run at (Some m) = refl
  placed_by run at None = refl

  place_by : (p : place.Placing) (turn : Turn Allocated) → Kept ⊤ (turned_place x p turn)
  place_by p More past = (tt, refl)
  place_by p (Finished (Placed at)) past = (tt, placed_by p.run at (making_for x x.task))
  place_by p (Finished (Full s)) past = (tt, shortage_by s s.traced)

  -- ---- rounds and scans

  traced_so : (d : duty.Round) (back : Back) → Kept (IsPastBack back) (traced_by (of_round x d) back)
  traced_so d ToScanner past =
      (pasts ⊥ x.layout.checkpoints (checkpoints (of_round x d) ForScanner) (goes_back (of_round x d) ToScanner) (λ p. p) (λ p. p) past, refl)
  traced_so d _ past = (tt, refl)

  served_so : (d : duty.Round) (back : Back) (result : RoundEnd) → Kept (IsPastBack back) (served_by x d back result)
  served_so d back (ScanPage page) past = (past, refl)
  served_so d back (ScanInPlace page) past = (past, refl)
  served_so d back Marked past = (goes_back_so (record x { epoch = d.epoch }) back past, refl)
  served_so d back Traced past = traced_so d back past
  served_so d back (NothingNow word) past = (goes_back_so (record x { epoch = d.epoch }) back past, refl)
  served_so d back (AllLeft word) past = absurd past

  round_by : (d : duty.Round) (back : Back) (turn : Turn RoundEnd) → Kept (IsPastBack back) (turned_round x d back turn)
  round_by d back More past = (past, refl)
  round_by d back (Finished result) past = served_so d back result past

  scan_by : (s : scan.Scanning) (back : Back) (turn : Turn Scanned) → Kept (IsPastBack back) (turned_scan x s back turn)
  scan_by s back More past = (past, refl)
  scan_by s back (Finished (scanned.Ask old)) past = (past, refl)
  scan_by s back (Finished (scanned.Ended at_front)) past = (past, refl)

  copy_by : (v : evac.Evacuation) (s : scan.Scanning) (back : Back) (turn : Turn To) → Kept (IsPastBack back) (turned_copy x v s back turn)
  copy_by v s back More past = (past, refl)
  copy_by v s back (Finished to) past = (past, refl)

  opening_by : (o : open_page.Opening) (s : scan.Scanning) (back : Back) (turn : Turn Opened) → Kept (IsPastBack back) (turned_opening x o s back turn)
  opening_by o s back More past = (past, refl)
  opening_by o s back (Finished opened) past = (goes_back_so x back past, refl)

  -- ---- checkpoints

  recall_by : (r : recall.Recalling) (after : After) (turn : Turn Recalled) → Kept (IsPastAfter after) (turned_recall x r after turn)
  recall_by r after More past = (past, refl)
  recall_by r after (Finished result) past = (goes_on_so (recalled x result) after past, refl)

  guard_by : (g : guard.Guarding) (write : Write) (turn : Turn MayWrite) → Kept ⊤ (turned_guard x g write turn)
  guard_by g write More past = (tt, refl)
  guard_by g write (Finished result) past = (tt, refl)

  rounded_so : (goal : Goal) (result : SaveRoundEnd) → IsPastLook (rounded x goal result) → IsPastGoal goal
  rounded_so ForFlip result past = tt
  rounded_so ForSnap result past = tt
  rounded_so ForScanner result past = past

  save_round_by : (r : save_round.SavingRound) (goal : Goal) (turn : Turn SaveRoundEnd) → Kept (IsPastGoal goal) (turned_save_round x r goal turn)
  save_round_by r goal More past = (past, refl)
  save_round_by r goal (Finished result) past = (rounded_so goal result past, refl)

  snap_by : (s : snap.Snapping) (turn : Turn Snapped) → Kept ⊤ (turned_snap x s turn)
  snap_by s More past = (tt, refl)
  snap_by s (Finished (snapped.Begun seen)) past = (tt, refl)
  snap_by s (Finished (snapped.NotYet word)) past = (tt, refl)

  -- ---- a look

  abbrev Begins : Held → Type 0
  Begins y = IsPastLook y.stage → y.begun ≡ x.epoch

  by_action : (act : Action) → (acts (begins x) act).begun ≡ x.epoch
  by_action Snaps = begun_if x.epoch (may_snap x) (at_stage (begins x) (serves_snap (begins x))) (went_on (begins x)) refl refl
  by_action _ = refl

  by_result : (r : Result Action End) → (acted (begins x) r).begun ≡ x.epoch
  by_result (Ok act) = by_action act
  by_result (Err why) = refl

  start_by : (task : Option Task) → Begins (started x task)
  start_by None past = absurd past
  start_by (Some (Calls instr)) past = by_result (action (seen x.account x.registers) instr)
  start_by (Some (Stops why)) past = refl

  request_by : (b : Bool) → Begins (cond b (at_stage x (passes x Park afters.Looks)) (started x x.task))
  request_by true past = absurd past
  request_by false past = start_by x.task past

  module _ (looks : x.stage ≡ Looks) where
    at_look : Begins x
    at_look past = absurd (subst IsPastLook looks past)

    gate_by : (o : Option GateWord) → Begins (looked_by x o)
    gate_by (Some read) past = request_by read.request past
    gate_by None past = at_look past

    look_by : (reply : Reply) → Begins (turned_look x reply)
    look_by (replies.Value word) past = gate_by (decode_gate word) past
    look_by _ past = at_look past

  -- ---- each stage

  -- who requests a flip makes a record, and who requests a checkpoint executes `snap`
  asking : (after : After) → FitsTaskAsking x after → IsPastAfter after
  asking afters.Looks task = task
  asking afters.Places task = tt
  asking afters.Snaps task = tt

  asks_for : (g : gate.Passing) (after : After) → FitsTaskBefore x g.passage after → g.passage ≡ Request → IsPastAfter after
  asks_for g after task e = asking after (subst (λ (p : Passage). FitsTaskBefore x p after) e task)

  by_stage : (stage : Stage) → x.stage ≡ stage → FitsTask x stage → (reply : Reply) → IsPastLook (turned_at x stage reply).stage
      → ((stage ≡ Looks) × ((turned_at x stage reply).begun ≡ x.epoch)) ⊎ (IsPastLook stage × ((turned_at x stage reply).begun ≡ x.begun))
  by_stage Looks e task reply past = inl (refl, look_by e reply past)
  by_stage (Passes g after) e task reply past = inr (passing_by (gate.taken g reply) after (gate.told (gate.taken g reply)) (asks_for g after task) (subst IsPastLook e) past)
  by_stage (Flips f) e task reply past = inr (flip_by (flip.taken f reply) (flip.told (flip.taken f reply)) past)
  by_stage (Forwards w) e task reply past = inr (register_by (with_evac w (evac_taken.taken w.evac reply)) (evac_taken.told (evac_taken.taken w.evac reply).stage) past)
  by_stage (Accesses a) e task reply past = inr (access_by (access.taken a reply) (access.told a reply) past)
  by_stage (Places p) e task reply past = inr (place_by (place.taken p reply) (place.told (place.taken p reply)) past)
  by_stage (Serves d back) e task reply past = inr (round_by (duty.taken d reply) back (duty.told (duty.taken d reply)) past)
  by_stage (Scans s back) e task reply past = inr (scan_by (scan_taken.taken s reply) back (scan_taken.told (scan_taken.taken s reply).stage) past)
  by_stage (Evacuates v s back) e task reply past = inr (copy_by (evac_taken.taken v reply) s back (evac_taken.told (evac_taken.taken v reply).stage) past)
  by_stage (Opens o s back) e task reply past = inr (opening_by (open_page.taken o reply) s back (open_page.told (open_page.taken o reply)) past)
  by_stage (Recalls r after) e task reply past = inr (recall_by (recall.taken r reply) after (recall.told (recall.taken r reply)) past)
  by_stage (Guards g write) e task reply past = inr (guard_by (guard.taken g reply) write (guard.told (guard.taken g reply)) past)
  by_stage (Checkpoints r goal) e task reply past = inr (save_round_by (save_round.taken r reply) goal (save_round.told (save_round.taken r reply)) past)
  by_stage (BeginsCheckpoint s) e task reply past = inr (snap_by (snap.taken s reply) (snap.told (snap.taken s reply)) past)
  by_stage Gone e task reply past = absurd (subst IsPastLook e past)

pub beginnings_are_kept : BeginningsAreKept
beginnings_are_kept n mutators k x reply fits past = by_stage x x.stage refl fits.task reply past

-- who rests after an effect is about to begin the next instruction
pub rests_before : (was stage : Stage) → RestsAt was stage → IsPastLook stage → ⊥
rests_before was Looks rests past = past
rests_before was (Passes g after) rests past = subst IsPastAfter rests.2 past
rests_before was stage rests past = rests

-- ---- a look finds no full heap

abbrev NotFull : Told → Type 0
NotFull (Answers task (Trap end)) = MayStop end
NotFull _ = ⊤

done_not_full : (task : Task) (b : Bool) → NotFull (cond b Silent (Answers task Done))
done_not_full task true = tt
done_not_full task false = tt

action_not_full : (x : Held) (task : Task) (act : Action) → NotFull (told_action x task act)
action_not_full x task Snaps = done_not_full task (may_snap x)
action_not_full x task _ = tt

acted_not_full : (x : Held) (task : Task) (r : Result Action End) → StopsRight r → NotFull (told_acted x task r)
acted_not_full x task (Ok act) stops = action_not_full x task act
acted_not_full x task (Err why) stops = stops

module _ (x : Held) (fits : MayBegin x.account x.registers x.task) where
  start_not_full : (task : Option Task) → x.task ≡ task → NotFull (told_start x task)
  start_not_full None e = tt
  start_not_full (Some (Calls instr)) e = acted_not_full x (Calls instr) (action (seen x.account x.registers) instr) (action_stops (seen x.account x.registers) instr)
  start_not_full (Some (Stops why)) e = subst (MayBegin x.account x.registers) e fits

  request_not_full : (b : Bool) → NotFull (cond b Silent (told_start x x.task))
  request_not_full true = tt
  request_not_full false = start_not_full x.task refl

  gate_not_full : (o : Option GateWord) → NotFull (told_gate x o)
  gate_not_full (Some read) = request_not_full read.request
  gate_not_full None = tt

  look_not_full : (reply : Reply) → NotFull (told_look x reply)
  look_not_full (replies.Value word) = gate_not_full (decode_gate word)
  look_not_full _ = tt

full_by_stage : (x : Held) (reply : Reply) (task : Task) (asked room live : ℕ) (stage : Stage) → FitsTask x stage → told_at x stage reply ≡ Answers task (Trap (HeapFull asked room live)) → IsPastLook stage
full_by_stage x reply task asked room live Looks fits e = subst NotFull e (look_not_full x fits reply)
full_by_stage x reply task asked room live (Flips f) fits e = tt
full_by_stage x reply task asked room live (Accesses a) fits e = tt
full_by_stage x reply task asked room live (Places p) fits e = tt
full_by_stage x reply task asked room live (Serves d back) fits e = absurd (subst IsQuiet e (rounds_are_quiet (duty.told (duty.taken d reply))))
full_by_stage x reply task asked room live (BeginsCheckpoint s) fits e = tt
full_by_stage x reply task asked room live _ fits e = absurd (let e = e in cc)

pub full_is_found_later : FullIsFoundLater
full_is_found_later n mutators k x reply task asked room live fits e = full_by_stage x reply task asked room live x.stage fits.task e
