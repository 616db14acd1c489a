-- What a reply makes of a worker: its machine takes the reply, and where that ends the machine, another stage follows.
use Rattle.std.specs.Prelude.{ℕ, zero, suc, ◌+◌, ◌-◌, ◌^◌, ◌==◌, ◌&&◌, ◌||◌, Bool, true, false, List, [], ◌∷◌, ◌++◌, Option, Some, None, Result, Ok, Err, nat_lt, slice_index, slice_set, if◌then◌else◌}
use Rattle.atom_store.specs.declared.reply.Reply.{Reply}
use Rattle.atom_store.specs.declared.reply.Reply.TheVariants as replies
use Rattle.atom_store.specs.declared.turn.Turn.{Turn}
use Rattle.atom_store.specs.declared.turn.Turn.TheVariants.{More, Finished}
use Rattle.heap_words.specs.Decoded.{decode, pointer_in}
use Rattle.heap_words.specs.Word.{number_word, pointer_word}
use Rattle.plain_state.specs.declared.end.End.{End}
use Rattle.plain_state.specs.declared.end.End.TheVariants.{HeapFull}
use Rattle.record_layout.specs.declared.header.Header.{Header}
use Rattle.space_map.specs.declared.gate_word.GateWord.{GateWord}
use Rattle.space_map.specs.GateWord.{decode_gate}
use Rattle.alloc_end.specs.declared.allocated.Allocated.{Allocated}
use Rattle.alloc_end.specs.declared.allocated.Allocated.TheVariants.{Placed, Full}
use Rattle.alloc_end.specs.declared.shortage.Shortage.{Shortage}
use Rattle.alloc_end.specs.Place as place
use Rattle.fault_duty.specs.declared.caller.Caller.TheVariants as callers
use Rattle.fault_duty.specs.declared.round_end.RoundEnd.{RoundEnd}
use Rattle.fault_duty.specs.declared.round_end.RoundEnd.TheVariants.{ScanPage, ScanInPlace, Marked, Traced, AllLeft, NothingNow}
use Rattle.fault_duty.specs.Duty as duty
use Rattle.forwarding.specs.declared.to.To.{To}
use Rattle.forwarding.specs.Evacuation as evac
use Rattle.forwarding.specs.Taken as evac_taken
use Rattle.gate_core.specs.declared.flipped.Flipped.{Flipped}
use Rattle.gate_core.specs.declared.flipped.Flipped.TheVariants as flipped
use Rattle.gate_core.specs.declared.passage.Passage.{Passage}
use Rattle.gate_core.specs.declared.passage.Passage.TheVariants.{Look, Attach, Park, Request, Resume, Forwarded, Leave, Clear}
use Rattle.gate_core.specs.declared.passed.Passed.{Passed}
use Rattle.gate_core.specs.declared.passed.Passed.TheVariants as passed
use Rattle.gate_core.specs.Gate as gate
use Rattle.gate_core.specs.Flip as flip
use Rattle.gate_core.specs.declared.recall.recalled.Recalled.{Recalled}
use Rattle.gate_core.specs.declared.snap.snapped.Snapped.{Snapped}
use Rattle.gate_core.specs.declared.snap.snapped.Snapped.TheVariants as snapped
use Rattle.gate_core.specs.Recall as recall
use Rattle.gate_core.specs.Snap as snap
use Rattle.page_saves.specs.declared.may_write.MayWrite.{MayWrite}
use Rattle.page_saves.specs.declared.save_round_end.SaveRoundEnd.{SaveRoundEnd}
use Rattle.page_saves.specs.declared.save_round_end.SaveRoundEnd.TheVariants as save_round_end
use Rattle.page_saves.specs.Guard as guard
use Rattle.page_saves.specs.SaveRound as save_round
use Rattle.page_scan.specs.declared.scanned.Scanned.{Scanned}
use Rattle.page_scan.specs.declared.scanned.Scanned.TheVariants as scanned
use Rattle.page_scan.specs.Scanning as scan
use Rattle.page_scan.specs.Taken as scan_taken
use Rattle.page_slots.specs.declared.claim_stage.ClaimStage.{ClaimStage}
use Rattle.page_slots.specs.declared.claim_stage.ClaimStage.TheVariants as claim_stage
use Rattle.page_slots.specs.declared.opened.Opened.{Opened}
use Rattle.page_slots.specs.Claim.{Claiming}
use Rattle.page_slots.specs.Open as open_page
use Rattle.fault_duty.specs.declared.duty_stage.DutyStage.{DutyStage}
use Rattle.fault_duty.specs.declared.duty_stage.DutyStage.TheVariants as duty_stage
use Rattle.gc_worker.specs.declared.stage.after.After.{After}
use Rattle.gc_worker.specs.declared.stage.after.After.TheVariants as afters
use Rattle.gc_worker.specs.declared.stage.back.Back.{Back}
use Rattle.gc_worker.specs.declared.stage.back.Back.TheVariants.{ToAccess, ToTarget, ToPlace, ToSnap, ToScanner}
use Rattle.gc_worker.specs.declared.stage.forwarding_register.ForwardingRegister.{ForwardingRegister}
use Rattle.gc_worker.specs.declared.stage.goal.Goal.{Goal}
use Rattle.gc_worker.specs.declared.stage.goal.Goal.TheVariants.{ForFlip, ForSnap, ForScanner}
use Rattle.gc_worker.specs.declared.stage.write.Write.{Write}
use Rattle.gc_worker.specs.declared.stage.write.Write.TheVariants.{OfAccess, OfPlace}
use Rattle.gc_worker.specs.declared.stage.Stage.{Stage}
use Rattle.gc_worker.specs.declared.stage.Stage.TheVariants.{Looks, Passes, Flips, Forwards, Accesses, Places, Serves, Scans, Evacuates, Opens, Recalls, Guards, Checkpoints, BeginsCheckpoint, Gone}
use Rattle.gc_worker.specs.declared.task.Task.{Task}
use Rattle.record_access.specs.declared.access.Access.{Access}
use Rattle.record_access.specs.declared.access_stage.AccessStage.{AccessStage}
use Rattle.record_access.specs.declared.accessed.Accessed.{Accessed}
use Rattle.record_access.specs.declared.accessed.Accessed.TheVariants.{Faults, Awaits, Brings, Stored, Fails}
use Rattle.gc_worker.specs.declared.calls.did.Did.{Did}
use Rattle.gc_worker.specs.declared.calls.did.Did.TheVariants.{Done, Trap}
use Rattle.gc_worker.specs.declared.task.Task.TheVariants.{Calls, Stops}
use Rattle.record_access.specs.Access as access
use Rattle.gc_worker.specs.Steps.Access as of_action
use Rattle.gc_worker.specs.Workers.Held.{Held, at_stage, has_seen_flip, making_for, header_for, fields_for, pages_needed, run_held, may_snap, target_for}
use Rattle.record_access.specs.Seen.{word_for}
use Rattle.gc_worker.specs.Plain.Seen.{Making, seen}
use Rattle.plain_heap.specs.declared.action.Action.{Action}
use Rattle.plain_heap.specs.declared.action.Action.TheVariants.{Sets, Jumps, Links, Prints, Makes, Snaps}
use Rattle.plain_heap.specs.Action.{action}
use Rattle.plain_heap.specs.Action as plain_action
use Rattle.alloc_end.specs.declared.run.Run.{Run}

-- ---- where it goes on

abbrev pub passes : Held → Passage → After → Stage
passes x passage after = Passes (gate.begun x.layout passage) after

-- ---- before a word is written on an open page

-- while a checkpoint is in progress it looks first whether the page is saved
abbrev pub guards : Held → Write → Option ℕ → Stage → Stage
guards x write (Some page) stage = if x.running == 0 then stage else Guards (guard.begun x.layout page x.running x.number) write
guards x write None stage = stage

abbrev pub guards_access : Held → Access → Stage
guards_access x a = guards x (OfAccess a) (access.writes_on a.spaces a.stage) (Accesses a)

abbrev pub guards_place : Held → place.Placing → Stage
guards_place x p = guards x (OfPlace p) (place.writes_on p p.stage) (Places p)

-- the access or the allocation that is at hand does so
abbrev pub guarded_at : Held → Stage → Stage
guarded_at x (Accesses a) = guards_access x a
guarded_at x (Places p) = guards_place x p
guarded_at x stage = stage

-- then it writes
abbrev pub writes : Write → Stage
writes (OfAccess a) = Accesses a
writes (OfPlace p) = Places p

-- ---- where it goes on

-- the allocation of the record that the task asks for
abbrev pub places : Held → Option Header → Stage
places x (Some header) = guards_place x (place.begun x.layout (run_held x) header x.epoch (fields_for x) x.snap (target_for x))
places x None = Looks

-- the rounds of who begins a checkpoint: first those of the duty, until the epoch is traced
abbrev pub serves_snap : Held → Stage
serves_snap x = Serves (duty.begun x.layout callers.Allocates x.epoch x.number) ToSnap

-- the rounds of who loads the target of a cell, until the epoch is traced
abbrev pub serves_target : Held → Access → Stage
serves_target x a = Serves (duty.begun x.layout callers.Allocates x.epoch x.number) (ToTarget a)

-- a mutator that stopped goes on there; if there is no number for one more checkpoint, the instruction begins anew
abbrev pub goes_on : Held → After → Stage
goes_on x afters.Looks = Looks
goes_on x afters.Places = places x (header_for x)
goes_on x afters.Snaps = if may_snap x then serves_snap x else Looks

-- one that begins to run reads first which checkpoint is in progress
abbrev pub runs_on : Held → After → Stage
runs_on x after = if x.layout.checkpoints then Recalls (recall.begun x.layout) after else goes_on x after

-- after a round a worker goes on there
abbrev pub goes_back : Held → Back → Stage
goes_back x (ToAccess access) = Accesses access
goes_back x (ToTarget access) = serves_target x access
goes_back x ToPlace = places x (header_for x)
goes_back x ToSnap = serves_snap x
goes_back x ToScanner = Serves (duty.begun x.layout (callers.Scans x.mutators) 0 x.number) ToScanner

-- a pointer in a register
pub record Pointed : Type 0 where
  pub register : ℕ
  pub addr : ℕ

-- the first of so many registers from one on that holds a pointer
abbrev pub pointer_at : (from : ℕ) → Option ℕ → Option Pointed → Option Pointed
pointer_at from (Some addr) later = Some (record { register = from; addr = addr })
pointer_at from None later = later

unfoldable pub first_pointer : List ℕ → (count from : ℕ) → Option Pointed
first_pointer registers zero from = None
first_pointer registers (suc n) from = pointer_at from (pointer_in (decode (slice_index registers from))) (first_pointer registers n (from + 1))

-- its record is copied in the epoch that follows the worker's; where there is none, all are forwarded
abbrev pub forwards_it : Held → After → Option Pointed → Stage
forwards_it x after (Some p) =
    Forwards (record { register = p.register; evac = evac.begun x.layout p.addr (x.epoch + 1) x.number; after = after })
forwards_it x after None = passes x Forwarded after

-- a late mutator forwards its registers from this one on
abbrev pub forwards_from : Held → After → ℕ → Stage
forwards_from x after j = forwards_it x after (first_pointer x.registers (8 - j) j)

-- ---- at the gate

abbrev pub epoch_in_gate : ℕ → Option GateWord → ℕ
epoch_in_gate own (Some gate) = gate.epoch
epoch_in_gate own None = own

-- the epoch that a gate's word says
abbrev pub epoch_said : (own word : ℕ) → ℕ
epoch_said own word = epoch_in_gate own (decode_gate word)

-- a mutator comes into an epoch
abbrev pub in_epoch : Held → ℕ → Held
in_epoch x epoch = record x { epoch = epoch; run = None }

abbrev pub attached : Held → ℕ → Held
attached x word = let y = in_epoch x (epoch_said x.epoch word) in at_stage y (runs_on y afters.Looks)

-- a stopped mutator meets a gate that lets it not run on: one of a later epoch makes it forward its registers
abbrev pub stopped : Held → After → ℕ → Held
stopped x after word =
    at_stage x (if nat_lt x.epoch (epoch_said x.epoch word) then forwards_from x after 0 else passes x (Resume x.epoch) after)

abbrev pub forwarded_all : Held → After → ℕ → Held
forwarded_all x after word =
    at_stage (in_epoch x (epoch_said x.epoch word)) (passes x (Resume (epoch_said x.epoch word)) after)

-- the request is its own: it flips, or begins a checkpoint
abbrev pub after_request : Held → After → Stage
after_request x afters.Snaps = BeginsCheckpoint (snap.begun x.layout x.snap)
after_request x after = Flips (flip.begun x.layout x.epoch (pages_needed x) (has_seen_flip x))

-- what a passage comes to
abbrev pub passed_by : Held → After → Passage → Passed → Held
passed_by x after Attach (passed.Went word) = attached x word
passed_by x after Attach (passed.NotYet word) = at_stage x (passes x Attach after)
passed_by x after Park (passed.Went word) = at_stage x (passes x (Resume x.epoch) after)
passed_by x after Park (passed.NotYet word) = at_stage x (goes_on x after)
passed_by x after Request (passed.Went word) = at_stage x (after_request x after)
passed_by x after Request (passed.NotYet word) = at_stage x (passes x Park after)
passed_by x after (Resume epoch) (passed.Went word) = at_stage x (runs_on x after)
passed_by x after (Resume epoch) (passed.NotYet word) = stopped x after word
passed_by x after Forwarded (passed.Went word) = forwarded_all x after word
passed_by x after Forwarded (passed.NotYet word) = x
passed_by x after Leave (passed.Went word) = at_stage x Gone
passed_by x after Leave (passed.NotYet word) = x
passed_by x after Look result = x
passed_by x after Clear (passed.Went word) = at_stage x (passes x (Resume x.epoch) after)
passed_by x after Clear (passed.NotYet word) = x

abbrev pub turned_gate : Held → gate.Passing → After → Turn Passed → Held
turned_gate x g after More = at_stage x (Passes g after)
turned_gate x g after (Finished result) = passed_by x after g.passage result

-- ---- what is read of checkpoints

-- how many were begun, and which one is in progress
abbrev pub recalled : Held → Recalled → Held
recalled x r = record x { snap = r.number; running = r.running }

abbrev pub turned_recall : Held → recall.Recalling → After → Turn Recalled → Held
turned_recall x r after More = at_stage x (Recalls r after)
turned_recall x r after (Finished result) = let y = recalled x result in at_stage y (goes_on y after)

-- ---- an instruction's effect

-- the mutator goes on at an instruction, and has answered its task
abbrev pub jumped : Held → (target : ℕ) → Held
jumped x target =
    at_stage (record x { account = record x.account { counter = target; executed = x.account.executed + 1 }; task = None }) Looks

-- the number of the next instruction
abbrev pub next_of : Held → ℕ
next_of x = plain_action.next_of (seen x.account x.registers)

-- it goes on with the next instruction
abbrev pub went_on : Held → Held
went_on x = jumped x (next_of x)

abbrev pub with_register_word : Held → (register word : ℕ) → Held
with_register_word x register word = record x { registers = slice_set x.registers register word }

-- a register gets a word, and the mutator goes on
abbrev pub loads : Held → (into word : ℕ) → Held
loads x into word = went_on (with_register_word x into word)

abbrev pub prints : Held → ℕ → Held
prints x n = went_on (record x { account = record x.account { printed = x.account.printed ++ n ∷ [] } })

-- the mutator has its end, and leaves
abbrev pub with_end : Held → End → Held
with_end x end = record x { account = record x.account { end = Some end } }

abbrev pub ended : Held → End → Held
ended x end = at_stage (record (with_end x end) { task = None }) (passes x Leave afters.Looks)

-- ---- the look that begins an instruction

-- the epoch in which it begins is kept
abbrev pub begins : Held → Held
begins x = record x { begun = x.epoch }

-- an access begins
abbrev pub accesses : Held → Option AccessStage → Held
accesses x (Some stage) = at_stage x (Accesses (record { spaces = x.layout; epoch = x.epoch; stage = stage }))
accesses x None = x

-- a checkpoint begins, if it can: else it is a step without effect on the words
abbrev pub snaps : Held → Held
snaps x = if may_snap x then at_stage x (serves_snap x) else went_on x

-- by the instruction's action
abbrev pub acts : Held → Action → Held
acts x (Sets d v) = loads x d (word_for v)
acts x (Jumps target) = jumped x target
acts x (Links d target) = jumped (with_register_word x d (number_word (next_of x))) target
acts x (Prints n) = prints x n
acts x Snaps = snaps x
acts x (Makes kind d n v) = at_stage x (places x (header_for x))
acts x act = accesses x (of_action.begun act)

abbrev pub acted : Held → Result Action End → Held
acted x (Ok act) = acts x act
acted x (Err why) = ended x why

abbrev pub started : Held → Option Task → Held
started x None = at_stage x Looks
started x (Some (Calls instr)) = acted (begins x) (action (seen x.account x.registers) instr)
started x (Some (Stops end)) = ended (begins x) end

-- a request makes it park first
abbrev pub looked_by : Held → Option GateWord → Held
looked_by x (Some gate) = if gate.request then at_stage x (passes x Park afters.Looks) else started x x.task
looked_by x None = x

abbrev pub turned_look : Held → Reply → Held
turned_look x (replies.Value word) = looked_by x (decode_gate word)
turned_look x replies.Done = x
turned_look x replies.Won = x
turned_look x (replies.Lost word) = x

-- ---- the flip

abbrev pub flipped_by : Held → flip.Flipping → Flipped → Held
flipped_by x f (flipped.Went asked) = at_stage x (passes x (Resume x.epoch) afters.Places)
flipped_by x f (flipped.NotYet word) = at_stage x (Flips (flip.begun x.layout x.epoch f.asked (has_seen_flip x)))

abbrev pub turned_flip : Held → flip.Flipping → Turn Flipped → Held
turned_flip x f More = at_stage x (Flips f)
turned_flip x f (Finished result) = flipped_by x f result

-- ---- the beginning of a checkpoint

-- it is begun: the mutator goes on, and clears the request, from the gate that it has seen
abbrev pub begins_checkpoint : Held → GateWord → Held
begins_checkpoint x seen = at_stage (went_on x) (Passes (gate.clear_begun x.layout seen) afters.Looks)

abbrev pub snapped_by : Held → Snapped → Held
snapped_by x (snapped.Begun seen) = begins_checkpoint x seen
snapped_by x (snapped.NotYet word) = at_stage x (BeginsCheckpoint (snap.begun x.layout x.snap))

abbrev pub turned_snap : Held → snap.Snapping → Turn Snapped → Held
turned_snap x s More = at_stage x (BeginsCheckpoint s)
turned_snap x s (Finished result) = snapped_by x result

-- ---- registers

-- the register gets the copy's address, and the next ones are forwarded
abbrev pub with_copy : Held → (register to : ℕ) → Held
with_copy x register to = with_register_word x register (pointer_word to)

abbrev pub forwarded_to : Held → ForwardingRegister → To → Held
forwarded_to x w to =
    at_stage (with_copy x w.register to.0) (forwards_from (with_copy x w.register to.0) w.after (w.register + 1))

abbrev pub turned_register : Held → ForwardingRegister → Turn To → Held
turned_register x w More = at_stage x (Forwards w)
turned_register x w (Finished to) = forwarded_to x w to

-- ---- allocation

-- the heap is full if the epoch was found traced, and no flip can help: one was seen since the instruction began, and all pages
-- of the space are in use; or the epoch is the last
abbrev pub is_full : Held → Shortage → Bool
is_full x s = (has_seen_flip x && (s.size == x.layout.pages)) || (x.epoch == 2 ^ 32 - 1)

abbrev pub end_by_shortage : Shortage → End
end_by_shortage s = HeapFull s.asked s.room s.live

-- a round for the checkpoint in progress
abbrev pub checkpoints : Held → Goal → Stage
checkpoints x ForScanner = Checkpoints (save_round.begun_by_scanner x.layout x.mutators x.number) ForScanner
checkpoints x goal = Checkpoints (save_round.begun_by_mutator x.layout x.epoch x.number) goal

-- a flip is asked for, but not while a checkpoint is in progress
abbrev pub asks_flip : Held → Stage
asks_flip x = if x.layout.checkpoints then checkpoints x ForFlip else passes x Request afters.Places

abbrev pub full_by : Held → Shortage → (traced : Bool) → Held
full_by x s false = at_stage x (Serves (duty.begun x.layout callers.Allocates x.epoch x.number) ToPlace)
full_by x s true = if is_full x s then ended x (end_by_shortage s) else at_stage x (asks_flip x)

-- the record stands, and the register that the task names leads to it
abbrev pub with_record : Held → Run → (at : ℕ) → Option Making → Held
with_record x run at (Some m) =
    loads (record x { account = record x.account { serial = x.account.serial + 1 }; run = Some run }) m.into (pointer_word at)
with_record x run at None = x

-- what an allocation comes to
abbrev pub allocated_by : Held → place.Placing → Allocated → Held
allocated_by x p (Placed at) = with_record x p.run at (making_for x x.task)
allocated_by x p (Full s) = full_by x s s.traced

-- what the allocation that is at hand comes to
abbrev pub allocated_at : Held → Stage → Allocated → Held
allocated_at x (Places p) result = allocated_by x p result
allocated_at x stage result = x

abbrev pub turned_place : Held → place.Placing → Turn Allocated → Held
turned_place x p More = at_stage x (guards_place x p)
turned_place x p (Finished result) = allocated_by x p result

-- ---- accesses

-- then it looks at the page again; if it is to load the target of a cell, once the epoch is found traced again
abbrev pub back_to : Access → Back
back_to a = if access.is_at_target a.stage then ToTarget a else ToAccess a

-- a round is made for a page that isn't open
abbrev pub accessed_by : Held → Access → Accessed → Held
accessed_by x a (Faults page) = at_stage x (Serves (duty.begun x.layout (callers.Faulted page) x.epoch x.number) (back_to a))
accessed_by x a Awaits = at_stage x (serves_target x a)
accessed_by x a (Brings into word) = loads x into word
accessed_by x a Stored = went_on x
accessed_by x a (Fails why) = ended x why

-- what the access that is at hand comes to
abbrev pub accessed_at : Held → Stage → Accessed → Held
accessed_at x (Accesses a) result = accessed_by x a result
accessed_at x stage result = x

abbrev pub turned_access : Held → Access → Turn Accessed → Held
turned_access x a More = at_stage x (guards_access x a)
turned_access x a (Finished result) = accessed_by x a result

-- ---- looks before a write, and rounds for a checkpoint

abbrev pub turned_guard : Held → guard.Guarding → Write → Turn MayWrite → Held
turned_guard x g write More = at_stage x (Guards g write)
turned_guard x g write (Finished result) = at_stage x (writes write)

-- what it asks for once no checkpoint is in progress
abbrev pub after_goal : Goal → After
after_goal ForFlip = afters.Places
after_goal ForSnap = afters.Snaps
after_goal ForScanner = afters.Looks

-- what a mutator's round comes to: it asks, or makes another round
abbrev pub rounded_by : Held → Goal → SaveRoundEnd → Stage
rounded_by x goal (save_round_end.NoneRuns number) = passes x Request (after_goal goal)
rounded_by x goal save_round_end.Saved = checkpoints x goal
rounded_by x goal save_round_end.Marked = checkpoints x goal
rounded_by x goal (save_round_end.NothingNow word) = checkpoints x goal

-- a scanner goes on with its duty
abbrev pub rounded : Held → Goal → SaveRoundEnd → Stage
rounded x ForScanner result = goes_back x ToScanner
rounded x goal result = rounded_by x goal result

abbrev pub turned_save_round : Held → save_round.SavingRound → Goal → Turn SaveRoundEnd → Held
turned_save_round x r goal More = at_stage x (Checkpoints r goal)
turned_save_round x r goal (Finished result) = at_stage x (rounded x goal result)

-- ---- rounds

abbrev pub of_round : Held → duty.Round → Held
of_round x d = record x { epoch = d.epoch }

abbrev pub scans : Held → (page : ℕ) → (in_place : Bool) → Back → Held
scans x page in_place back = at_stage x (Scans (scan.begun x.layout page x.epoch in_place) back)

abbrev pub back_from : Held → Back → Held
back_from x back = at_stage x (goes_back x back)

-- its epoch was found traced: who loads a target or begins a checkpoint goes on, and a scanner helps with one
abbrev pub traced_by : Held → Back → Held
traced_by x (ToTarget access) = at_stage x (Accesses access)
traced_by x ToSnap = at_stage x (checkpoints x ForSnap)
traced_by x ToScanner = at_stage x (if x.layout.checkpoints then checkpoints x ForScanner else goes_back x ToScanner)
traced_by x back = back_from x back

-- what a round comes to
abbrev pub served_by : Held → duty.Round → Back → RoundEnd → Held
served_by x d back (ScanPage page) = scans (of_round x d) page false back
served_by x d back (ScanInPlace page) = scans (of_round x d) page true back
served_by x d back Marked = back_from (of_round x d) back
served_by x d back Traced = traced_by (of_round x d) back
served_by x d back (NothingNow word) = back_from (of_round x d) back
served_by x d back (AllLeft word) = at_stage x Gone

abbrev pub turned_round : Held → duty.Round → Back → Turn RoundEnd → Held
turned_round x d back More = at_stage x (Serves d back)
turned_round x d back (Finished result) = served_by x d back result

-- ---- scans

abbrev pub scanned_by : Held → scan.Scanning → Back → Scanned → Held
scanned_by x s back (scanned.Ask old) = at_stage x (Evacuates (evac.begun x.layout old x.epoch x.number) s back)
scanned_by x s back (scanned.Ended at_front) = at_stage x (Opens (open_page.begun x.layout s.page x.epoch) s back)

-- what the scan that is at hand comes to
abbrev pub scanned_at : Held → Stage → Scanned → Held
scanned_at x (Scans s back) result = scanned_by x s back result
scanned_at x stage result = x

abbrev pub turned_scan : Held → scan.Scanning → Back → Turn Scanned → Held
turned_scan x s back More = at_stage x (Scans s back)
turned_scan x s back (Finished result) = scanned_by x s back result

-- the scan goes on with the address of the copy
abbrev pub evacuated_by : Held → scan.Scanning → Back → To → Held
evacuated_by x s back to = at_stage x (Scans (scan_taken.answered s to.0) back)

-- what the copy that is at hand comes to
abbrev pub evacuated_at : Held → Stage → To → Held
evacuated_at x (Evacuates v s back) to = evacuated_by x s back to
evacuated_at x stage to = x

abbrev pub turned_copy : Held → evac.Evacuation → scan.Scanning → Back → Turn To → Held
turned_copy x v s back More = at_stage x (Evacuates v s back)
turned_copy x v s back (Finished to) = evacuated_by x s back to

abbrev pub turned_opening : Held → open_page.Opening → scan.Scanning → Back → Turn Opened → Held
turned_opening x o s back More = at_stage x (Opens o s back)
turned_opening x o s back (Finished opened) = back_from x back

-- ---- the worker

abbrev pub with_evac : ForwardingRegister → evac.Evacuation → ForwardingRegister
with_evac w v = record w { evac = v }

abbrev pub turned_at : Held → Stage → Reply → Held
turned_at x Looks reply = turned_look x reply
turned_at x (Passes g after) reply = turned_gate x (gate.taken g reply) after (gate.told (gate.taken g reply))
turned_at x (Flips f) reply = turned_flip x (flip.taken f reply) (flip.told (flip.taken f reply))
turned_at x (Forwards w) reply = turned_register x (with_evac w (evac_taken.taken w.evac reply)) (evac_taken.told (evac_taken.taken w.evac reply).stage)
turned_at x (Accesses a) reply = turned_access x (access.taken a reply) (access.told a reply)
turned_at x (Places p) reply = turned_place x (place.taken p reply) (place.told (place.taken p reply))
turned_at x (Serves d back) reply = turned_round x (duty.taken d reply) back (duty.told (duty.taken d reply))
turned_at x (Scans s back) reply = turned_scan x (scan_taken.taken s reply) back (scan_taken.told (scan_taken.taken s reply).stage)
turned_at x (Evacuates v s back) reply = turned_copy x (evac_taken.taken v reply) s back (evac_taken.told (evac_taken.taken v reply).stage)
turned_at x (Opens o s back) reply = turned_opening x (open_page.taken o reply) s back (open_page.told (open_page.taken o reply))
turned_at x (Recalls r after) reply = turned_recall x (recall.taken r reply) after (recall.told (recall.taken r reply))
turned_at x (Guards g write) reply = turned_guard x (guard.taken g reply) write (guard.told (guard.taken g reply))
turned_at x (Checkpoints r goal) reply = turned_save_round x (save_round.taken r reply) goal (save_round.told (save_round.taken r reply))
turned_at x (BeginsCheckpoint s) reply = turned_snap x (snap.taken s reply) (snap.told (snap.taken s reply))
turned_at x Gone reply = x

-- the worker after a reply to its step
abbrev pub turned : Held → Reply → Held
turned x reply = turned_at x x.stage reply

-- ---- what the step is to the plain machine

-- nothing; this came of the task; a flip, for which so many pages were asked; or, once the epoch is traced, that cells are emptied
pub data Told : Type 0 where
  Silent : Told
  Answers : Task → Did → Told
  Marks : (asked : ℕ) → Told
  Empties : Told

abbrev pub told_flip : Turn Flipped → Told
told_flip (Finished (flipped.Went asked)) = Marks asked
told_flip (Finished (flipped.NotYet word)) = Silent
told_flip More = Silent

abbrev pub told_end : Option Task → End → Told
told_end (Some task) end = Answers task (Trap end)
told_end None end = Silent

abbrev pub told_full : Held → Shortage → (traced : Bool) → Told
told_full x s false = Silent
told_full x s true = if is_full x s then told_end x.task (end_by_shortage s) else Silent

-- the task is done
abbrev pub told_effect : Option Task → Told
told_effect (Some task) = Answers task Done
told_effect None = Silent

abbrev pub told_place : Held → Turn Allocated → Told
told_place x (Finished (Placed at)) = told_effect x.task
told_place x (Finished (Full s)) = told_full x s s.traced
told_place x More = Silent

abbrev pub told_access : Option Task → Turn Accessed → Told
told_access task (Finished (Faults page)) = Silent
told_access task (Finished Awaits) = Silent
told_access task (Finished (Brings into word)) = told_effect task
told_access task (Finished Stored) = told_effect task
told_access task (Finished (Fails why)) = told_end task why
told_access task More = Silent

abbrev pub told_snap : Option Task → Turn Snapped → Told
told_snap task (Finished (snapped.Begun seen)) = told_effect task
told_snap task (Finished (snapped.NotYet word)) = Silent
told_snap task More = Silent

-- a round that exchanges TRACED ends the tracing of the epoch
abbrev pub told_round : Turn RoundEnd → Told
told_round (Finished (ScanPage page)) = Silent
told_round (Finished (ScanInPlace page)) = Silent
told_round (Finished Marked) = Empties
told_round (Finished Traced) = Silent
told_round (Finished (NothingNow word)) = Silent
told_round (Finished (AllLeft word)) = Silent
told_round More = Silent

-- an action that the registers alone decide is the effect
abbrev pub told_action : Held → Task → Action → Told
told_action x task (Sets d v) = Answers task Done
told_action x task (Jumps target) = Answers task Done
told_action x task (Links d target) = Answers task Done
told_action x task (Prints n) = Answers task Done
told_action x task Snaps = if may_snap x then Silent else Answers task Done
told_action x task act = Silent

abbrev pub told_acted : Held → Task → Result Action End → Told
told_acted x task (Ok act) = told_action x task act
told_acted x task (Err why) = Answers task (Trap why)

abbrev pub told_start : Held → Option Task → Told
told_start x None = Silent
told_start x (Some (Calls instr)) = told_acted x (Calls instr) (action (seen x.account x.registers) instr)
told_start x (Some (Stops end)) = Answers (Stops end) (Trap end)

abbrev pub told_gate : Held → Option GateWord → Told
told_gate x (Some gate) = if gate.request then Silent else told_start x x.task
told_gate x None = Silent

abbrev pub told_look : Held → Reply → Told
told_look x (replies.Value word) = told_gate x (decode_gate word)
told_look x reply = Silent

abbrev pub told_at : Held → Stage → Reply → Told
told_at x Looks reply = told_look x reply
told_at x (Flips f) reply = told_flip (flip.told (flip.taken f reply))
told_at x (Accesses a) reply = told_access x.task (access.told a reply)
told_at x (Places p) reply = told_place x (place.told (place.taken p reply))
told_at x (Serves d back) reply = told_round (duty.told (duty.taken d reply))
told_at x (BeginsCheckpoint s) reply = told_snap x.task (snap.told (snap.taken s reply))
told_at x stage reply = Silent

abbrev pub told : Held → Reply → Told
told x reply = told_at x x.stage reply

-- ---- pages won

-- a page that a worker has claimed in an epoch
pub record PageWon : Type 0 where
  pub page : ℕ
  pub epoch : ℕ

abbrev pub won_by : Claiming → ClaimStage → Reply → Option PageWon
won_by c claim_stage.Exchanges replies.Won = Some (record { page = c.page; epoch = c.epoch })
won_by c stage reply = None

abbrev pub won_in : DutyStage → Reply → Option PageWon
won_in (duty_stage.Claims c) reply = won_by c c.stage reply
won_in stage reply = None

abbrev pub won_at : Stage → Reply → Option PageWon
won_at (Serves d back) reply = won_in d.stage reply
won_at stage reply = None

-- the page that this step wins
abbrev pub won : Held → Reply → Option PageWon
won x reply = won_at x.stage reply
