-- A step answers the task that was begun, or keeps it; and a mutator with an end keeps its account and registers.
use Rattle.std.proofs.Common.{◌≡◌, ℕ, Bool, true, false, cond, is_some, Option, Some, None, Result, Ok, Err, refl, sym, ap, subst, ◌∙◌}
use Rattle.plain_state.specs.declared.end.End.{End}
use Rattle.atom_store.specs.declared.reply.Reply.{Reply}
use Rattle.atom_store.specs.declared.reply.Reply.TheVariants as replies
use Rattle.atom_store.specs.declared.turn.Turn.{Turn}
use Rattle.atom_store.specs.declared.turn.Turn.TheVariants.{More, Finished}
use Rattle.space_map.specs.declared.gate_word.GateWord.{GateWord}
use Rattle.space_map.specs.GateWord.{decode_gate}
use Rattle.alloc_end.specs.declared.allocated.Allocated.{Allocated}
use Rattle.alloc_end.specs.declared.allocated.Allocated.TheVariants.{Placed, Full}
use Rattle.alloc_end.specs.declared.run.Run.{Run}
use Rattle.alloc_end.specs.declared.shortage.Shortage.{Shortage}
use Rattle.alloc_end.specs.Place as place
use Rattle.fault_duty.specs.declared.round_end.RoundEnd.{RoundEnd}
use Rattle.fault_duty.specs.declared.round_end.RoundEnd.TheVariants.{ScanPage, ScanInPlace, Marked, Traced, AllLeft, NothingNow}
use Rattle.fault_duty.specs.Duty as duty
use Rattle.forwarding.specs.declared.to.To.{To}
use Rattle.forwarding.specs.Evacuation as evac
use Rattle.forwarding.specs.Taken as evac_taken
use Rattle.gate_core.specs.declared.flipped.Flipped.{Flipped}
use Rattle.gate_core.specs.declared.flipped.Flipped.TheVariants as flipped
use Rattle.gate_core.specs.declared.passage.Passage.{Passage}
use Rattle.gate_core.specs.declared.passage.Passage.TheVariants.{Look, Attach, Park, Request, Resume, Forwarded, Leave, Clear}
use Rattle.gate_core.specs.declared.passed.Passed.{Passed}
use Rattle.gate_core.specs.declared.passed.Passed.TheVariants as passed
use Rattle.gate_core.specs.declared.recall.recalled.Recalled.{Recalled}
use Rattle.gate_core.specs.declared.snap.snapped.Snapped.{Snapped}
use Rattle.gate_core.specs.declared.snap.snapped.Snapped.TheVariants as snapped
use Rattle.gate_core.specs.Flip as flip
use Rattle.gate_core.specs.Gate as gate
use Rattle.gate_core.specs.Recall as recall
use Rattle.gate_core.specs.Snap as snap
use Rattle.page_saves.specs.declared.may_write.MayWrite.{MayWrite}
use Rattle.page_saves.specs.declared.save_round_end.SaveRoundEnd.{SaveRoundEnd}
use Rattle.page_saves.specs.Guard as guard
use Rattle.page_saves.specs.SaveRound as save_round
use Rattle.page_scan.specs.declared.scanned.Scanned.{Scanned}
use Rattle.page_scan.specs.declared.scanned.Scanned.TheVariants as scanned
use Rattle.page_scan.specs.Scanning as scan
use Rattle.page_scan.specs.Taken as scan_taken
use Rattle.page_slots.specs.declared.opened.Opened.{Opened}
use Rattle.page_slots.specs.Open as open_page
use Rattle.plain_heap.specs.declared.action.Action.{Action}
use Rattle.plain_heap.specs.declared.action.Action.TheVariants.{Sets, Jumps, Links, Prints, Snaps}
use Rattle.plain_heap.specs.Action.{action}
use Rattle.record_access.specs.declared.access.Access.{Access}
use Rattle.record_access.specs.declared.accessed.Accessed.{Accessed}
use Rattle.record_access.specs.declared.accessed.Accessed.TheVariants.{Faults, Awaits, Brings, Stored, Fails}
use Rattle.gc_worker.specs.declared.stage.after.After.{After}
use Rattle.gc_worker.specs.declared.stage.after.After.TheVariants as afters
use Rattle.gc_worker.specs.declared.stage.back.Back.{Back}
use Rattle.gc_worker.specs.declared.stage.back.Back.TheVariants.{ToAccess, ToTarget, ToPlace, ToSnap, ToScanner}
use Rattle.gc_worker.specs.declared.stage.forwarding_register.ForwardingRegister.{ForwardingRegister}
use Rattle.gc_worker.specs.declared.stage.goal.Goal.{Goal}
use Rattle.gc_worker.specs.declared.stage.write.Write.{Write}
use Rattle.gc_worker.specs.declared.stage.Stage.{Stage}
use Rattle.gc_worker.specs.declared.stage.Stage.TheVariants.{Looks, Passes, Flips, Forwards, Accesses, Places, Serves, Scans, Evacuates, Opens, Recalls, Guards, Checkpoints, BeginsCheckpoint, Gone}
use Rattle.gc_worker.specs.declared.task.Task.{Task}
use Rattle.gc_worker.specs.declared.task.Task.TheVariants.{Calls, Stops}
use Rattle.record_access.specs.Access as access
use Rattle.gc_worker.specs.Laws.Between.{IsAnswerOf, IsNoAnswer, RestsAt, WorkersGoOn}
use Rattle.gc_worker.specs.Workers.Fits.{FitsEnd, FitsTask, IsEndBefore, IsMaking}
use Rattle.gc_worker.specs.Workers.Held.{Held, at_stage, making_for, may_snap}
use Rattle.gc_worker.specs.Plain.Seen.{Making, seen}
use Rattle.gc_worker.specs.declared.calls.did.Did.TheVariants.{Done, Trap}
use Rattle.gc_worker.specs.Steps.Stepped.{IsBeginningCheckpoint}
use Rattle.gc_worker.specs.Steps.Turned.{Answers, Marks, Silent, Empties, Told, acted, acts, asks_flip, begins, begins_checkpoint, end_by_shortage, ended, full_by, is_full, looked_by, of_round, passed_by, passes, served_by, serves_snap, started, told, told_access, told_acted, told_action, told_at, told_effect, told_end, told_flip, told_full, told_gate, told_look, told_place, told_snap, told_start, traced_by, turned, turned_access, turned_at, turned_copy, turned_flip, turned_gate, turned_guard, turned_look, turned_opening, turned_place, turned_recall, turned_register, turned_round, turned_save_round, turned_scan, turned_snap, went_on, with_evac, with_record, told_round}
use Rattle.gc_worker.proofs.Plain.NewRecords.{made_is}

-- ---- what becomes of the task

abbrev Comes : (x y : Held) → Told → Type 0
Comes x y (Answers task outcome) = IsAnswerOf x y task outcome
Comes x y _ = y.task ≡ x.task

-- a worker becomes another by a step that is this to the plain machine
record Turns (x y : Held) (t : Told) : Type 0 where
  pub comes : Comes x y t
  pub number : y.number ≡ x.number
  pub layout : y.layout ≡ x.layout
  pub mutators : y.mutators ≡ x.mutators
  pub prints : y.prints ≡ x.prints

module _ (x : Held) where
  -- the same worker, with another stage or what a step makes of it
  abbrev Same : Held → Type 0
  Same y = (y.number ≡ x.number) × (y.layout ≡ x.layout) × (y.mutators ≡ x.mutators) × (y.prints ≡ x.prints)

  turns : (y : Held) (t : Told) → Same y → Comes x y t → Turns x y t
  turns y t same comes = record { comes = comes; number = same.0; layout = same.1; mutators = same.2; prints = same.3 }

  effect_by : (y : Held) → Same y → y.task ≡ None → RestsAt x.stage y.stage → (task : Option Task) → x.task ≡ task → Turns x y (told_effect task)
  effect_by y same rests after (Some task) asked = turns y (Answers task Done) same (record { asked = asked; rests = rests; after = after })
  effect_by y same rests after None none = turns y Silent same (rests ∙ sym none)

  end_by : (why : End) (task : Option Task) → x.task ≡ task → Turns x (ended x why) (told_end task why)
  end_by why (Some task) asked = turns (ended x why) (Answers task (Trap why)) (refl, refl, refl, refl) (record { asked = asked; rests = refl; after = (refl, refl) })
  end_by why None none = turns (ended x why) Silent (refl, refl, refl, refl) (sym none)

  -- ---- a look

  module _ (task : Task) (asked : x.task ≡ Some task) where
    at_once : (y : Held) → Same y → y.task ≡ None → RestsAt x.stage y.stage → Turns x y (Answers task Done)
    at_once y same rests after = turns y (Answers task Done) same (record { asked = asked; rests = rests; after = after })

    -- a checkpoint is begun later, or cannot be begun
    snap_if : (b : Bool) → Turns x (cond b (at_stage (begins x) (serves_snap (begins x))) (went_on (begins x))) (cond b Silent (Answers task Done))
    snap_if true = turns (at_stage (begins x) (serves_snap (begins x))) Silent (refl, refl, refl, refl) refl
    snap_if false = at_once (went_on (begins x)) (refl, refl, refl, refl) refl tt

    by_action : (act : Action) → Turns x (acts (begins x) act) (told_action x task act)
    by_action (Sets d v) = at_once (acts (begins x) (Sets d v)) (refl, refl, refl, refl) refl tt
    by_action (Jumps target) = at_once (acts (begins x) (Jumps target)) (refl, refl, refl, refl) refl tt
    by_action (Links d target) = at_once (acts (begins x) (Links d target)) (refl, refl, refl, refl) refl tt
    by_action (Prints n) = at_once (acts (begins x) (Prints n)) (refl, refl, refl, refl) refl tt
    by_action Snaps = snap_if (may_snap x)
    by_action act = turns (acts (begins x) act) Silent (refl, refl, refl, refl) refl

    stops_at : (why : End) → Turns x (ended (begins x) why) (Answers task (Trap why))
    stops_at why = turns (ended (begins x) why) (Answers task (Trap why)) (refl, refl, refl, refl) (record { asked = asked; rests = refl; after = (refl, refl) })

    by_result : (r : Result Action End) → Turns x (acted (begins x) r) (told_acted x task r)
    by_result (Ok act) = by_action act
    by_result (Err why) = stops_at why

  start_by : (task : Option Task) → x.task ≡ task → Turns x (started x task) (told_start x task)
  start_by None none = turns (started x None) Silent (refl, refl, refl, refl) refl
  start_by (Some (Calls instr)) asked = by_result (Calls instr) asked (action (seen x.account x.registers) instr)
  start_by (Some (Stops why)) asked = stops_at (Stops why) asked why

  request_by : (b : Bool) (parked : Held) → Same parked → parked.task ≡ x.task → Turns x (cond b parked (started x x.task)) (cond b Silent (told_start x x.task))
  request_by true parked same task = turns parked Silent same task
  request_by false parked same task = start_by x.task refl

  gate_by : (o : Option GateWord) → Turns x (looked_by x o) (told_gate x o)
  gate_by (Some read) = request_by read.request (at_stage x (passes x Park afters.Looks)) (refl, refl, refl, refl) refl
  gate_by None = turns x Silent (refl, refl, refl, refl) refl

  look_by : (reply : Reply) → Turns x (turned_look x reply) (told_look x reply)
  look_by (replies.Value word) = gate_by (decode_gate word)
  look_by _ = turns x Silent (refl, refl, refl, refl) refl

  -- ---- at the gate

  passed_so : (after : After) (passage : Passage) (result : Passed) → Turns x (passed_by x after passage result) Silent
  passed_so after Attach (passed.Went word) = turns (passed_by x after Attach (passed.Went word)) Silent (refl, refl, refl, refl) refl
  passed_so after Attach (passed.NotYet word) = turns (passed_by x after Attach (passed.NotYet word)) Silent (refl, refl, refl, refl) refl
  passed_so after Park (passed.Went word) = turns (passed_by x after Park (passed.Went word)) Silent (refl, refl, refl, refl) refl
  passed_so after Park (passed.NotYet word) = turns (passed_by x after Park (passed.NotYet word)) Silent (refl, refl, refl, refl) refl
  passed_so after Request (passed.Went word) = turns (passed_by x after Request (passed.Went word)) Silent (refl, refl, refl, refl) refl
  passed_so after Request (passed.NotYet word) = turns (passed_by x after Request (passed.NotYet word)) Silent (refl, refl, refl, refl) refl
  passed_so after (Resume own) (passed.Went word) = turns (passed_by x after (Resume own) (passed.Went word)) Silent (refl, refl, refl, refl) refl
  passed_so after (Resume own) (passed.NotYet word) = turns (passed_by x after (Resume own) (passed.NotYet word)) Silent (refl, refl, refl, refl) refl
  passed_so after Forwarded (passed.Went word) = turns (passed_by x after Forwarded (passed.Went word)) Silent (refl, refl, refl, refl) refl
  passed_so after Forwarded (passed.NotYet word) = turns (passed_by x after Forwarded (passed.NotYet word)) Silent (refl, refl, refl, refl) refl
  passed_so after Leave (passed.Went word) = turns (passed_by x after Leave (passed.Went word)) Silent (refl, refl, refl, refl) refl
  passed_so after Leave (passed.NotYet word) = turns (passed_by x after Leave (passed.NotYet word)) Silent (refl, refl, refl, refl) refl
  passed_so after Look result = turns x Silent (refl, refl, refl, refl) refl
  passed_so after Clear (passed.Went word) = turns (passed_by x after Clear (passed.Went word)) Silent (refl, refl, refl, refl) refl
  passed_so after Clear (passed.NotYet word) = turns x Silent (refl, refl, refl, refl) refl

  passing_by : (g : gate.Passing) (after : After) (turn : Turn Passed) → Turns x (turned_gate x g after turn) Silent
  passing_by g after More = turns (turned_gate x g after More) Silent (refl, refl, refl, refl) refl
  passing_by g after (Finished result) = passed_so after g.passage result

  flip_by : (f : flip.Flipping) (turn : Turn Flipped) → Turns x (turned_flip x f turn) (told_flip turn)
  flip_by f More = turns (turned_flip x f More) Silent (refl, refl, refl, refl) refl
  flip_by f (Finished (flipped.Went asked)) = turns (turned_flip x f (Finished (flipped.Went asked))) (Marks asked) (refl, refl, refl, refl) refl
  flip_by f (Finished (flipped.NotYet word)) = turns (turned_flip x f (Finished (flipped.NotYet word))) Silent (refl, refl, refl, refl) refl

  register_by : (w : ForwardingRegister) (turn : Turn To) → Turns x (turned_register x w turn) Silent
  register_by w More = turns (turned_register x w More) Silent (refl, refl, refl, refl) refl
  register_by w (Finished to) = turns (turned_register x w (Finished to)) Silent (refl, refl, refl, refl) refl

  -- ---- an access, an allocation

  access_by : (a : Access) (turn : Turn Accessed) → Turns x (turned_access x a turn) (told_access x.task turn)
  access_by a More = turns (turned_access x a More) Silent (refl, refl, refl, refl) refl
  access_by a (Finished (Faults page)) = turns (turned_access x a (Finished (Faults page))) Silent (refl, refl, refl, refl) refl
  access_by a (Finished Awaits) = turns (turned_access x a (Finished Awaits)) Silent (refl, refl, refl, refl) refl
  access_by a (Finished (Brings into word)) = effect_by (turned_access x a (Finished (Brings into word))) (refl, refl, refl, refl) refl tt x.task refl
  access_by a (Finished Stored) = effect_by (turned_access x a (Finished Stored)) (refl, refl, refl, refl) refl tt x.task refl
  access_by a (Finished (Fails why)) = end_by why x.task refl

  full_if : (b : Bool) (why : End) (asks : Held) → Same asks → asks.task ≡ x.task → Turns x (cond b (ended x why) asks) (cond b (told_end x.task why) Silent)
  full_if true why asks same task = end_by why x.task refl
  full_if false why asks same task = turns asks Silent same task

  shortage_by : (s : Shortage) (traced : Bool) → Turns x (full_by x s traced) (told_full x s traced)
  shortage_by s false = turns (full_by x s false) Silent (refl, refl, refl, refl) refl
  shortage_by s true = full_if (is_full x s) (end_by_shortage s) (at_stage x (asks_flip x)) (refl, refl, refl, refl) refl

  module _ (making : IsMaking x.account x.registers x.task) where
    placed_by : (run : Run) (at : ℕ) (made : Option Making) → making_for x x.task ≡ made → Turns x (with_record x run at made) (told_effect x.task)
    placed_by run at (Some m) is = effect_by (with_record x run at (Some m)) (refl, refl, refl, refl) refl tt x.task refl
    placed_by run at None none = absurd (let e = sym none ∙ made_is x making in cc)

    place_by : (p : place.Placing) (turn : Turn Allocated) → Turns x (turned_place x p turn) (told_place x turn)
    place_by p More = turns (turned_place x p More) Silent (refl, refl, refl, refl) refl
    place_by p (Finished (Placed at)) = placed_by p.run at (making_for x x.task) refl
    place_by p (Finished (Full s)) = shortage_by s s.traced

  -- ---- rounds and scans

  traced_so : (d : duty.Round) (back : Back) → Turns x (traced_by (of_round x d) back) Silent
  traced_so d (ToAccess a) = turns (traced_by (of_round x d) (ToAccess a)) Silent (refl, refl, refl, refl) refl
  traced_so d (ToTarget a) = turns (traced_by (of_round x d) (ToTarget a)) Silent (refl, refl, refl, refl) refl
  traced_so d ToPlace = turns (traced_by (of_round x d) ToPlace) Silent (refl, refl, refl, refl) refl
  traced_so d ToSnap = turns (traced_by (of_round x d) ToSnap) Silent (refl, refl, refl, refl) refl
  traced_so d ToScanner = turns (traced_by (of_round x d) ToScanner) Silent (refl, refl, refl, refl) refl

  served_so : (d : duty.Round) (back : Back) (result : RoundEnd) → Turns x (served_by x d back result) (told_round (Finished result))
  served_so d back (ScanPage page) = turns (served_by x d back (ScanPage page)) Silent (refl, refl, refl, refl) refl
  served_so d back (ScanInPlace page) = turns (served_by x d back (ScanInPlace page)) Silent (refl, refl, refl, refl) refl
  served_so d back Marked = turns (served_by x d back Marked) Empties (refl, refl, refl, refl) refl
  served_so d back Traced = traced_so d back
  served_so d back (NothingNow word) = turns (served_by x d back (NothingNow word)) Silent (refl, refl, refl, refl) refl
  served_so d back (AllLeft word) = turns (served_by x d back (AllLeft word)) Silent (refl, refl, refl, refl) refl

  round_by : (d : duty.Round) (back : Back) (turn : Turn RoundEnd) → Turns x (turned_round x d back turn) (told_round turn)
  round_by d back More = turns (turned_round x d back More) Silent (refl, refl, refl, refl) refl
  round_by d back (Finished result) = served_so d back result

  scan_by : (s : scan.Scanning) (back : Back) (turn : Turn Scanned) → Turns x (turned_scan x s back turn) Silent
  scan_by s back More = turns (turned_scan x s back More) Silent (refl, refl, refl, refl) refl
  scan_by s back (Finished (scanned.Ask old)) = turns (turned_scan x s back (Finished (scanned.Ask old))) Silent (refl, refl, refl, refl) refl
  scan_by s back (Finished (scanned.Ended at_front)) = turns (turned_scan x s back (Finished (scanned.Ended at_front))) Silent (refl, refl, refl, refl) refl

  copy_by : (v : evac.Evacuation) (s : scan.Scanning) (back : Back) (turn : Turn To) → Turns x (turned_copy x v s back turn) Silent
  copy_by v s back More = turns (turned_copy x v s back More) Silent (refl, refl, refl, refl) refl
  copy_by v s back (Finished to) = turns (turned_copy x v s back (Finished to)) Silent (refl, refl, refl, refl) refl

  opening_by : (o : open_page.Opening) (s : scan.Scanning) (back : Back) (turn : Turn Opened) → Turns x (turned_opening x o s back turn) Silent
  opening_by o s back More = turns (turned_opening x o s back More) Silent (refl, refl, refl, refl) refl
  opening_by o s back (Finished opened) = turns (turned_opening x o s back (Finished opened)) Silent (refl, refl, refl, refl) refl

  -- ---- checkpoints

  recall_by : (r : recall.Recalling) (after : After) (turn : Turn Recalled) → Turns x (turned_recall x r after turn) Silent
  recall_by r after More = turns (turned_recall x r after More) Silent (refl, refl, refl, refl) refl
  recall_by r after (Finished result) = turns (turned_recall x r after (Finished result)) Silent (refl, refl, refl, refl) refl

  guard_by : (g : guard.Guarding) (write : Write) (turn : Turn MayWrite) → Turns x (turned_guard x g write turn) Silent
  guard_by g write More = turns (turned_guard x g write More) Silent (refl, refl, refl, refl) refl
  guard_by g write (Finished result) = turns (turned_guard x g write (Finished result)) Silent (refl, refl, refl, refl) refl

  save_round_by : (r : save_round.SavingRound) (goal : Goal) (turn : Turn SaveRoundEnd) → Turns x (turned_save_round x r goal turn) Silent
  save_round_by r goal More = turns (turned_save_round x r goal More) Silent (refl, refl, refl, refl) refl
  save_round_by r goal (Finished result) = turns (turned_save_round x r goal (Finished result)) Silent (refl, refl, refl, refl) refl

  snap_by : IsBeginningCheckpoint x.stage → (s : snap.Snapping) (turn : Turn Snapped) → Turns x (turned_snap x s turn) (told_snap x.task turn)
  snap_by begins s More = turns (turned_snap x s More) Silent (refl, refl, refl, refl) refl
  snap_by begins s (Finished (snapped.Begun seen)) = effect_by (begins_checkpoint x seen) (refl, refl, refl, refl) refl (begins, refl, refl) x.task refl
  snap_by begins s (Finished (snapped.NotYet word)) = turns (turned_snap x s (Finished (snapped.NotYet word))) Silent (refl, refl, refl, refl) refl

  -- ---- each stage

  by_stage : (stage : Stage) → x.stage ≡ stage → FitsTask x stage → (reply : Reply) → Turns x (turned_at x stage reply) (told_at x stage reply)
  by_stage Looks e task reply = look_by reply
  by_stage (Passes g after) e task reply = passing_by (gate.taken g reply) after (gate.told (gate.taken g reply))
  by_stage (Flips f) e task reply = flip_by (flip.taken f reply) (flip.told (flip.taken f reply))
  by_stage (Forwards w) e task reply = register_by (with_evac w (evac_taken.taken w.evac reply)) (evac_taken.told (evac_taken.taken w.evac reply).stage)
  by_stage (Accesses a) e task reply = access_by (access.taken a reply) (access.told a reply)
  by_stage (Places p) e task reply = place_by task.0 (place.taken p reply) (place.told (place.taken p reply))
  by_stage (Serves d back) e task reply = round_by (duty.taken d reply) back (duty.told (duty.taken d reply))
  by_stage (Scans s back) e task reply = scan_by (scan_taken.taken s reply) back (scan_taken.told (scan_taken.taken s reply).stage)
  by_stage (Evacuates v s back) e task reply = copy_by (evac_taken.taken v reply) s back (evac_taken.told (evac_taken.taken v reply).stage)
  by_stage (Opens o s back) e task reply = opening_by (open_page.taken o reply) s back (open_page.told (open_page.taken o reply))
  by_stage (Recalls r after) e task reply = recall_by (recall.taken r reply) after (recall.told (recall.taken r reply))
  by_stage (Guards g write) e task reply = guard_by (guard.taken g reply) write (guard.told (guard.taken g reply))
  by_stage (Checkpoints r goal) e task reply = save_round_by (save_round.taken r reply) goal (save_round.told (save_round.taken r reply))
  by_stage (BeginsCheckpoint s) e task reply = snap_by (subst IsBeginningCheckpoint (sym e) tt) (snap.taken s reply) (snap.told (snap.taken s reply))
  by_stage Gone e task reply = turns x Silent (refl, refl, refl, refl) refl

  -- ---- a mutator with an end

  abbrev Rests : Held → Type 0
  Rests y = (y.account ≡ x.account) × (y.registers ≡ x.registers)

  left_so : (after : After) (result : Passed) → Rests (passed_by x after Leave result)
  left_so after (passed.Went word) = (refl, refl)
  left_so after (passed.NotYet word) = (refl, refl)

  leaving : (g : gate.Passing) (after : After) (turn : Turn Passed) → g.passage ≡ Leave → Rests (turned_gate x g after turn)
  leaving g after More e = (refl, refl)
  leaving g after (Finished result) e = subst (λ (p : Passage). Rests (passed_by x after p result)) (sym e) (left_so after result)

  leaves : (passage : Passage) → IsEndBefore passage true → passage ≡ Leave
  leaves Leave end = refl
  leaves _ end = absurd (cc)

  rests : (stage : Stage) → FitsEnd stage true → (reply : Reply) → Rests (turned_at x stage reply)
  rests (Passes g after) end reply = leaving (gate.taken g reply) after (gate.told (gate.taken g reply)) (leaves g.passage end)
  rests Gone end reply = (refl, refl)
  rests _ end reply = absurd (cc)

-- ---- the law

kept_by : (x y : Held) (t : Told) → Comes x y t → IsNoAnswer t → y.task ≡ x.task
kept_by x y (Answers task outcome) comes none = absurd none
kept_by x y _ comes none = comes

pub workers_go_on : WorkersGoOn
workers_go_on n mutators k x reply fits =
    let t = by_stage x x.stage refl fits.task reply in
    record {
      answers = λ task outcome e. subst (Comes x (turned x reply)) e t.comes;
      kept = kept_by x (turned x reply) (told x reply) t.comes;
      ended = λ why e. rests x x.stage (subst (FitsEnd x.stage) (ap is_some e) fits.end) reply;
      number = t.number;
      layout = t.layout;
      mutators = t.mutators;
      prints = t.prints;
    }
