-- What a worker keeps of itself: each machine is sound, and its layout, its worker and its epoch are the worker's own.
use Rattle.std.specs.Prelude.{◌≡◌, ℕ, ◌+◌, ◌^◌, ◌<◌, ◌≤◌, ◌⊎◌, ⊤, Bool, true, false, List, length, Option, Some, None, Ok, is_some, nat_lt, slice_index, IsTrue}
use Rattle.atom_store.specs.declared.reply.Reply.{Reply}
use Rattle.atom_store.specs.declared.reply.Reply.TheVariants.{Value}
use Rattle.space_map.specs.declared.spaces.TheConstants.{LAST_WORKER, PAGE_WORDS}
use Rattle.space_map.specs.Spaces.{Layout, IsPageCount, board_page, first_word, space_start, to_space}
use Rattle.alloc_end.specs.declared.run.Run.{Run}
use Rattle.alloc_end.specs.Place as place
use Rattle.alloc_end.specs.declared.place_stage.PlaceStage.{PlaceStage}
use Rattle.alloc_end.specs.declared.place_stage.PlaceStage.TheVariants.{StoresCount, StoresTarget, StoresLink, StoresHeader}
use Rattle.record_layout.specs.declared.header.Header.{Header}
use Rattle.alloc_end.specs.Soundness.{RunLiesInSpaces, IsPlacingGoing, IsSoundPlacing}
use Rattle.fault_duty.specs.declared.caller.Caller.{Caller}
use Rattle.fault_duty.specs.declared.caller.Caller.TheVariants as callers
use Rattle.fault_duty.specs.Duty as duty
use Rattle.fault_duty.specs.Soundness.{IsRoundGoing, IsSoundRound}
use Rattle.forwarding.specs.Evacuation as evac
use Rattle.forwarding.specs.Taken as evac_taken
use Rattle.forwarding.specs.Soundness as evac_sound
use Rattle.gate_core.specs.declared.passage.Passage.{Passage}
use Rattle.gate_core.specs.declared.passage.Passage.TheVariants as passages
use Rattle.gate_core.specs.Gate as gate
use Rattle.gate_core.specs.Flip as flip
use Rattle.gate_core.specs.Soundness.{IsPassingGoing, IsSoundPassing, IsFlippingGoing, IsSoundFlipping, IsRecallGoing, IsSoundRecalling, IsSnappingGoing, IsSoundSnapping}
use Rattle.gate_core.specs.Recall as recall
use Rattle.gate_core.specs.Snap as snap
use Rattle.page_saves.specs.declared.save_caller.SaveCaller.TheVariants.{Mutates, Scans as ForScans}
use Rattle.page_saves.specs.declared.save_round_stage.SaveRoundStage.{SaveRoundStage}
use Rattle.page_saves.specs.declared.save_round_stage.SaveRoundStage.TheVariants as save_round_stage
use Rattle.page_saves.specs.Guard as guard
use Rattle.page_saves.specs.SaveRound as save_round
use Rattle.page_saves.specs.SoundGuard.{IsGuardGoing, IsSoundGuard}
use Rattle.page_saves.specs.SoundRound.{IsSaveRoundGoing, IsSoundSaveRound}
use Rattle.page_scan.specs.declared.scan_stage.ScanStage.{ScanStage}
use Rattle.page_scan.specs.declared.scan_stage.ScanStage.TheVariants as scan_stage
use Rattle.page_scan.specs.Scanning as scan
use Rattle.page_scan.specs.Taken as scan_taken
use Rattle.page_scan.specs.Soundness as scan_sound
use Rattle.page_slots.specs.Open as open_page
use Rattle.page_slots.specs.Soundness.{IsOpeningGoing, IsSoundOpening}
use Rattle.record_access.specs.declared.access.Access.{Access}
use Rattle.record_access.specs.declared.access_stage.AccessStage.{AccessStage}
use Rattle.heap_state.specs.Known.{Account}
use Rattle.gc_worker.specs.declared.stage.back.Back.{Back}
use Rattle.gc_worker.specs.declared.stage.back.Back.TheVariants.{ToAccess, ToTarget, ToPlace, ToSnap, ToScanner}
use Rattle.gc_worker.specs.declared.stage.forwarding_register.ForwardingRegister.{ForwardingRegister}
use Rattle.gc_worker.specs.declared.stage.goal.Goal.{Goal}
use Rattle.gc_worker.specs.declared.stage.goal.Goal.TheVariants.{ForFlip, ForSnap, ForScanner}
use Rattle.gc_worker.specs.declared.stage.write.Write.{Write}
use Rattle.gc_worker.specs.declared.stage.write.Write.TheVariants.{OfAccess, OfPlace}
use Rattle.gc_worker.specs.declared.stage.Stage.{Stage}
use Rattle.gc_worker.specs.declared.stage.Stage.TheVariants.{Looks, Passes, Flips, Forwards, Accesses, Places, Serves, Scans, Evacuates, Opens, Recalls, Guards, Checkpoints, BeginsCheckpoint, Gone}
use Rattle.gc_worker.specs.declared.stage.after.After.{After}
use Rattle.gc_worker.specs.declared.stage.after.After.TheVariants as afters
use Rattle.gc_worker.specs.declared.task.Task.{Task}
use Rattle.gc_worker.specs.declared.task.Task.TheVariants.{Calls, Stops}
use Rattle.record_access.specs.Access.{IsSoundAccess}
use Rattle.gc_worker.specs.Steps.Access.{IsAccessOf}
use Rattle.record_access.specs.Access as access
use Rattle.record_access.specs.Seen.{IsValueWord}
use Rattle.gc_worker.specs.Plain.Seen.{Making, making_in, seen}
use Rattle.gc_worker.specs.Workers.Held.{Held, may_snap, has_seen_flip, pages_needed, header_for, fields_for, target_for}
use Rattle.plain_state.specs.declared.end.End.{End}
use Rattle.plain_state.specs.declared.end.End.TheVariants.{HeapFull}
use Rattle.plain_state.specs.declared.sizes.TheConstants.{REGISTERS, MOST_PRINTED}
use Rattle.plain_state.specs.declared.value.Value as values
use Rattle.mutator_asm.specs.declared.instr.Instr.{Instr}
use Rattle.mutator_asm.specs.Program.{is_valid}
use Rattle.plain_heap.specs.declared.action.Action.{Action}
use Rattle.plain_heap.specs.declared.action.Action.TheVariants.{Makes, Snaps}
use Rattle.plain_heap.specs.Action.{action}

-- ---- what each machine is to its worker

-- a flip is requested in an epoch that is not the last one, and a checkpoint if one can be begun
abbrev pub MayRequest : Held → After → Type 0
MayRequest x afters.Looks = ⊥
MayRequest x afters.Places = x.epoch + 1 < 2 ^ 32
MayRequest x afters.Snaps = may_snap x ≡ true

-- who resumes does so in its own epoch, and only who has begun a checkpoint clears the request
abbrev pub IsOwnPassage : Held → After → Passage → Type 0
IsOwnPassage x after (passages.Resume own) = own ≡ x.epoch
IsOwnPassage x after passages.Look = ⊥
IsOwnPassage x after passages.Attach = ⊤
IsOwnPassage x after passages.Park = ⊤
IsOwnPassage x after passages.Request = MayRequest x after
IsOwnPassage x after passages.Forwarded = ⊤
IsOwnPassage x after passages.Leave = ⊤
IsOwnPassage x after passages.Clear = x.layout.checkpoints ≡ true

pub record FitsGate (x : Held) (g : gate.Passing) (after : After) : Type 0 where
  pub layout : g.layout ≡ x.layout
  pub passage : IsOwnPassage x after g.passage
  pub going : IsPassingGoing g.stage
  pub sound : IsSoundPassing g

pub record FitsFlip (x : Held) (f : flip.Flipping) : Type 0 where
  pub layout : f.layout ≡ x.layout
  pub epoch : f.epoch ≡ x.epoch
  pub seen : f.seen ≡ has_seen_flip x
  pub going : IsFlippingGoing f.stage
  pub sound : IsSoundFlipping f

-- a copy for a worker, in this epoch
pub record FitsCopy (x : Held) (epoch : ℕ) (v : evac.Evacuation) : Type 0 where
  pub layout : v.layout ≡ x.layout
  pub of_epoch : v.epoch ≡ epoch
  pub worker : v.worker ≡ x.number
  pub going : evac.IsGoing v.stage
  pub sound : evac_sound.IsSound v

-- a register's copy is made in the epoch after the mutator's
pub record FitsRegister (x : Held) (w : ForwardingRegister) : Type 0 where
  pub register : w.register < REGISTERS
  pub copy : FitsCopy x (x.epoch + 1) w.evac

-- once a record is to stand in the run, less than a page is left behind it
abbrev pub LeavesShortRun : Run → Header → PlaceStage → Type 0
LeavesShortRun run header StoresCount = run.end < run.at + place.size_of header + PAGE_WORDS
LeavesShortRun run header StoresTarget = run.end < run.at + place.size_of header + PAGE_WORDS
LeavesShortRun run header StoresLink = run.end < run.at + place.size_of header + PAGE_WORDS
LeavesShortRun run header StoresHeader = run.end < run.at + place.size_of header + PAGE_WORDS
LeavesShortRun run header stage = ⊤

-- new pages are marked as the worker knows of checkpoints
pub record FitsPlace (x : Held) (p : place.Placing) : Type 0 where
  pub layout : p.layout ≡ x.layout
  pub epoch : p.epoch ≡ x.epoch
  pub fields : p.fields ≡ fields_for x
  pub snap : p.snap ≡ x.snap
  pub target : p.target ≡ target_for x
  pub going : IsPlacingGoing p.stage
  pub rest : LeavesShortRun p.run p.header p.stage
  pub sound : IsSoundPlacing p

-- the page is the board, or none before the space of the worker's epoch
abbrev pub IsFaulting : Held → (page : ℕ) → Type 0
IsFaulting x page = (page ≡ board_page x.layout.pages) ⊎ (space_start x.layout.pages (to_space x.epoch) ≤ first_word page)

-- Who made the round: a mutator that goes back to its access made it for a page, one that allocates for none, one that waits to load a target
-- for either, and a scanner for all.
abbrev pub IsCallerOf : Held → Back → Caller → Type 0
IsCallerOf x (ToAccess a) (callers.Faulted page) = IsFaulting x page
IsCallerOf x (ToAccess a) callers.Allocates = ⊥
IsCallerOf x (ToAccess a) (callers.Scans mutators) = ⊥
IsCallerOf x (ToTarget a) callers.Allocates = ⊤
IsCallerOf x (ToTarget a) (callers.Faulted page) = IsFaulting x page
IsCallerOf x (ToTarget a) (callers.Scans mutators) = ⊥
IsCallerOf x ToPlace callers.Allocates = ⊤
IsCallerOf x ToPlace (callers.Faulted page) = ⊥
IsCallerOf x ToPlace (callers.Scans mutators) = ⊥
IsCallerOf x ToSnap callers.Allocates = ⊤
IsCallerOf x ToSnap (callers.Faulted page) = ⊥
IsCallerOf x ToSnap (callers.Scans mutators) = ⊥
IsCallerOf x ToScanner (callers.Scans mutators) = mutators ≡ x.mutators
IsCallerOf x ToScanner (callers.Faulted page) = ⊥
IsCallerOf x ToScanner callers.Allocates = ⊥

-- a mutator's round is of its own epoch
abbrev pub IsEpochOf : Held → Back → (epoch : ℕ) → Type 0
IsEpochOf x (ToAccess a) epoch = epoch ≡ x.epoch
IsEpochOf x (ToTarget a) epoch = epoch ≡ x.epoch
IsEpochOf x ToPlace epoch = epoch ≡ x.epoch
IsEpochOf x ToSnap epoch = epoch ≡ x.epoch
IsEpochOf x ToScanner epoch = ⊤

pub record FitsRound (x : Held) (d : duty.Round) (back : Back) : Type 0 where
  pub layout : d.layout ≡ x.layout
  pub worker : d.worker ≡ x.number
  pub caller : IsCallerOf x back d.caller
  pub epoch : IsEpochOf x back d.epoch
  pub going : IsRoundGoing d.stage
  pub sound : IsSoundRound d

-- an access is of its worker's layout and epoch
pub record FitsAccess (l : Layout) (e : ℕ) (a : Access) : Type 0 where
  pub layout : a.spaces ≡ l
  pub epoch : a.epoch ≡ e
  pub sound : IsSoundAccess a

-- What it goes back to is its own. An access looks again before it writes, and one that loads the target of a cell is known as such; a scanner
-- has no run.
abbrev pub FitsBack : Held → Back → Type 0
FitsBack x (ToAccess a) = FitsAccess x.layout x.epoch a × (access.writes_on a.spaces a.stage ≡ None) × (access.is_at_target a.stage ≡ false)
FitsBack x (ToTarget a) = FitsAccess x.layout x.epoch a × (access.is_at_target a.stage ≡ true)
FitsBack x ToPlace = ⊤
FitsBack x ToSnap = ⊤
FitsBack x ToScanner = x.run ≡ None

pub record FitsScan (x : Held) (s : scan.Scanning) : Type 0 where
  pub layout : s.layout ≡ x.layout
  pub epoch : s.epoch ≡ x.epoch
  pub sound : scan_sound.IsSound s

-- a scan whose copy is made has asked for it
abbrev pub HasAsked : evac.Evacuation → ScanStage → Type 0
HasAsked v (scan_stage.Asks asked) = asked.old ≡ v.addr
HasAsked v stage = ⊥

abbrev pub HasEnded : ScanStage → Type 0
HasEnded (scan_stage.Ended ending) = ⊤
HasEnded stage = ⊥

-- a scan that goes on by itself has a next step
abbrev pub ScanHasStep : ScanStage → Type 0
ScanHasStep stage = scan.HasStep stage

pub record FitsOpening (x : Held) (o : open_page.Opening) (s : scan.Scanning) : Type 0 where
  pub layout : o.layout ≡ x.layout
  pub epoch : o.epoch ≡ x.epoch
  pub page : o.page ≡ s.page
  pub going : IsOpeningGoing o.stage
  pub sound : IsSoundOpening o

-- ---- checkpoints

pub record FitsRecall (x : Held) (r : recall.Recalling) : Type 0 where
  pub room : x.layout.checkpoints ≡ true
  pub layout : r.layout ≡ x.layout
  pub going : IsRecallGoing r.stage
  pub sound : IsSoundRecalling r

-- what is written next is the worker's own, and on this page
abbrev pub FitsWrite : Held → Write → (page : ℕ) → Type 0
FitsWrite x (OfAccess a) page = FitsAccess x.layout x.epoch a × (access.writes_on a.spaces a.stage ≡ Some page)
FitsWrite x (OfPlace p) page = FitsPlace x p × (place.writes_on p p.stage ≡ Some page)

-- the look is for the checkpoint that was in progress when the worker began to run
pub record FitsGuard (x : Held) (g : guard.Guarding) (w : Write) : Type 0 where
  pub room : x.layout.checkpoints ≡ true
  pub layout : g.layout ≡ x.layout
  pub worker : g.worker ≡ x.number
  pub number : g.number ≡ x.running
  pub runs : 0 < x.running
  pub going : IsGuardGoing g.stage
  pub sound : IsSoundGuard g
  pub write : FitsWrite x w g.page

-- a mutator's round doesn't look at the gate, and once it has read SNAP it has read what the mutator read when it began to run
abbrev pub HasReadNumber : Held → SaveRoundStage → (number : ℕ) → Type 0
HasReadNumber x save_round_stage.LoadsGate number = ⊥
HasReadNumber x save_round_stage.LoadsGateAgain number = ⊥
HasReadNumber x save_round_stage.LoadsSnap number = ⊤
HasReadNumber x stage number = number ≡ x.snap

-- a mutator's round is of its own epoch
pub record IsRoundOfMutator (x : Held) (r : save_round.SavingRound) : Type 0 where
  pub caller : r.caller ≡ Mutates
  pub epoch : r.epoch ≡ x.epoch
  pub number : HasReadNumber x r.stage r.number

-- a scanner has no run
pub record IsRoundOfScanner (x : Held) (r : save_round.SavingRound) : Type 0 where
  pub caller : r.caller ≡ ForScans x.mutators
  pub no_run : x.run ≡ None

abbrev pub IsRoundFor : Held → Goal → save_round.SavingRound → Type 0
IsRoundFor x ForFlip r = IsRoundOfMutator x r × (x.epoch + 1 < 2 ^ 32)
IsRoundFor x ForSnap r = IsRoundOfMutator x r × (may_snap x ≡ true)
IsRoundFor x ForScanner r = IsRoundOfScanner x r

pub record FitsCheckpoint (x : Held) (r : save_round.SavingRound) (goal : Goal) : Type 0 where
  pub room : x.layout.checkpoints ≡ true
  pub layout : r.layout ≡ x.layout
  pub worker : r.worker ≡ x.number
  pub caller : IsRoundFor x goal r
  pub going : IsSaveRoundGoing r.stage
  pub sound : IsSoundSaveRound r

pub record FitsSnap (x : Held) (s : snap.Snapping) : Type 0 where
  pub layout : s.layout ≡ x.layout
  pub number : s.number ≡ x.snap
  pub may : may_snap x ≡ true
  pub going : IsSnappingGoing s.stage
  pub sound : IsSoundSnapping s

-- ---- the worker

abbrev pub FitsStage : Held → Stage → Type 0
FitsStage x Looks = ⊤
FitsStage x (Passes g after) = FitsGate x g after
FitsStage x (Flips f) = FitsFlip x f
FitsStage x (Forwards w) = FitsRegister x w
FitsStage x (Accesses a) = FitsAccess x.layout x.epoch a
FitsStage x (Places p) = FitsPlace x p
FitsStage x (Serves d back) = FitsRound x d back × FitsBack x back
FitsStage x (Scans s back) = FitsScan x s × ScanHasStep s.stage × FitsBack x back
FitsStage x (Evacuates v s back) = FitsCopy x x.epoch v × FitsScan x s × HasAsked v s.stage × FitsBack x back
FitsStage x (Opens o s back) = FitsOpening x o s × FitsScan x s × HasEnded s.stage × FitsBack x back
FitsStage x (Recalls r after) = FitsRecall x r
FitsStage x (Guards g write) = FitsGuard x g write
FitsStage x (Checkpoints r goal) = FitsCheckpoint x r goal
FitsStage x (BeginsCheckpoint s) = FitsSnap x s
FitsStage x Gone = ⊤

-- who leaves has an end, and nobody else has who hasn't left
abbrev pub IsEndBefore : Passage → (ended : Bool) → Type 0
IsEndBefore passages.Leave ended = ended ≡ true
IsEndBefore passages.Look ended = ended ≡ false
IsEndBefore passages.Attach ended = ended ≡ false
IsEndBefore passages.Park ended = ended ≡ false
IsEndBefore passages.Request ended = ended ≡ false
IsEndBefore (passages.Resume epoch) ended = ended ≡ false
IsEndBefore passages.Forwarded ended = ended ≡ false
IsEndBefore passages.Clear ended = ended ≡ false

abbrev pub FitsEnd : Stage → (ended : Bool) → Type 0
FitsEnd (Passes g after) ended = IsEndBefore g.passage ended
FitsEnd Gone ended = ⊤
FitsEnd stage ended = ended ≡ false

-- ---- the task, by a worker's account and registers

-- An instruction that may be begun: its operands are ones that their places allow; and where it makes a record, the record's serial fits a header.
pub record FitsCall (account : Account) (registers : List ℕ) (instr : Instr) : Type 0 where
  pub valid : IsTrue (is_valid instr)
  pub serial : (m : Making) → making_in (action (seen account registers) instr) ≡ Some m → account.serial + 1 < 2 ^ 40

-- an end that may stand in place of an instruction: that the heap is full is seen at an allocation alone
abbrev pub MayStop : End → Type 0
MayStop (HeapFull asked room live) = ⊥
MayStop end = ⊤

abbrev pub MayBegin : Account → (registers : List ℕ) → Option Task → Type 0
MayBegin account registers None = ⊤
MayBegin account registers (Some (Calls instr)) = FitsCall account registers instr
MayBegin account registers (Some (Stops end)) = MayStop end

-- it executes an instruction whose action is this
pub record ExecutesAction (account : Account) (registers : List ℕ) (task : Option Task) (act : Action) : Type 0 where
  pub instr : Instr
  pub task_is : task ≡ Some (Calls instr)
  pub call : FitsCall account registers instr
  pub acts : action (seen account registers) instr ≡ Ok act

-- it executes one that makes a record
pub record IsMaking (account : Account) (registers : List ℕ) (task : Option Task) : Type 0 where
  pub making : Making
  pub value : values.Value
  pub executes : ExecutesAction account registers task (Makes making.kind making.into making.len value)

-- it executes `snap`
abbrev pub IsSnapping : Account → (registers : List ℕ) → Option Task → Type 0
IsSnapping account registers task = ExecutesAction account registers task Snaps

-- it executes one whose access is at this stage
pub record IsAccessing (account : Account) (registers : List ℕ) (task : Option Task) (stage : AccessStage) : Type 0 where
  pub act : Action
  pub executes : ExecutesAction account registers task act
  pub is : IsAccessOf act stage

abbrev pub FitsTaskAfter : Held → After → Type 0
FitsTaskAfter x afters.Looks = MayBegin x.account x.registers x.task
FitsTaskAfter x afters.Places = IsMaking x.account x.registers x.task
FitsTaskAfter x afters.Snaps = IsSnapping x.account x.registers x.task

abbrev pub FitsTaskBack : Held → Back → Type 0
FitsTaskBack x (ToAccess a) = IsAccessing x.account x.registers x.task a.stage
FitsTaskBack x (ToTarget a) = IsAccessing x.account x.registers x.task a.stage
FitsTaskBack x ToPlace = IsMaking x.account x.registers x.task
FitsTaskBack x ToSnap = IsSnapping x.account x.registers x.task × (may_snap x ≡ true)
FitsTaskBack x ToScanner = x.task ≡ None

-- only an allocation and `snap` request anything
abbrev pub FitsTaskAsking : Held → After → Type 0
FitsTaskAsking x afters.Looks = ⊥
FitsTaskAsking x after = FitsTaskAfter x after

abbrev pub FitsTaskBefore : Held → Passage → After → Type 0
FitsTaskBefore x passages.Leave after = x.task ≡ None
FitsTaskBefore x passages.Request after = FitsTaskAsking x after
FitsTaskBefore x passages.Attach after = MayBegin x.account x.registers x.task
FitsTaskBefore x passages.Park after = FitsTaskAfter x after
FitsTaskBefore x (passages.Resume epoch) after = FitsTaskAfter x after
FitsTaskBefore x passages.Forwarded after = FitsTaskAfter x after
FitsTaskBefore x passages.Look after = ⊥
FitsTaskBefore x passages.Clear after = MayBegin x.account x.registers x.task × (after ≡ afters.Looks)

abbrev pub FitsTaskWrite : Held → Write → Type 0
FitsTaskWrite x (OfAccess a) = IsAccessing x.account x.registers x.task a.stage
FitsTaskWrite x (OfPlace p) = IsMaking x.account x.registers x.task × (header_for x ≡ Some p.header)

abbrev pub FitsTaskFor : Held → Goal → Type 0
FitsTaskFor x ForFlip = IsMaking x.account x.registers x.task
FitsTaskFor x ForSnap = IsSnapping x.account x.registers x.task
FitsTaskFor x ForScanner = x.task ≡ None

-- its task is the one that brought it to the stage; at a look it may have one or none
abbrev pub FitsTask : Held → Stage → Type 0
FitsTask x Looks = MayBegin x.account x.registers x.task
FitsTask x (Passes g after) = FitsTaskBefore x g.passage after
FitsTask x (Flips f) = IsMaking x.account x.registers x.task × (f.asked ≡ pages_needed x)
FitsTask x (Forwards w) = FitsTaskAfter x w.after
FitsTask x (Accesses a) = IsAccessing x.account x.registers x.task a.stage
FitsTask x (Places p) = IsMaking x.account x.registers x.task × (header_for x ≡ Some p.header)
FitsTask x (Serves d back) = FitsTaskBack x back
FitsTask x (Scans s back) = FitsTaskBack x back
FitsTask x (Evacuates v s back) = FitsTaskBack x back
FitsTask x (Opens o s back) = FitsTaskBack x back
FitsTask x (Recalls r after) = FitsTaskAfter x after
FitsTask x (Guards g write) = FitsTaskWrite x write
FitsTask x (Checkpoints r goal) = FitsTaskFor x goal
FitsTask x (BeginsCheckpoint s) = IsSnapping x.account x.registers x.task
FitsTask x Gone = x.task ≡ None

-- ---- the side

abbrev pub IsOnSideBack : Back → (is_mutator : Bool) → Type 0
IsOnSideBack (ToAccess a) is_mutator = is_mutator ≡ true
IsOnSideBack (ToTarget a) is_mutator = is_mutator ≡ true
IsOnSideBack ToPlace is_mutator = is_mutator ≡ true
IsOnSideBack ToSnap is_mutator = is_mutator ≡ true
IsOnSideBack ToScanner is_mutator = is_mutator ≡ false

abbrev pub IsOnSideFor : Goal → (is_mutator : Bool) → Type 0
IsOnSideFor ForScanner is_mutator = is_mutator ≡ false
IsOnSideFor goal is_mutator = is_mutator ≡ true

-- a mutator that is gone has its end
abbrev pub IsGoneBy : (is_mutator ended : Bool) → Type 0
IsGoneBy true ended = ended ≡ true
IsGoneBy false ended = ⊤

-- a mutator is at a mutator's stage, and a scanner at one of a scanner
abbrev pub IsOnSide : Stage → (is_mutator ended : Bool) → Type 0
IsOnSide (Serves d back) is_mutator ended = IsOnSideBack back is_mutator
IsOnSide (Scans s back) is_mutator ended = IsOnSideBack back is_mutator
IsOnSide (Evacuates v s back) is_mutator ended = IsOnSideBack back is_mutator
IsOnSide (Opens o s back) is_mutator ended = IsOnSideBack back is_mutator
IsOnSide (Checkpoints r goal) is_mutator ended = IsOnSideFor goal is_mutator
IsOnSide Gone is_mutator ended = IsGoneBy is_mutator ended
IsOnSide stage is_mutator ended = is_mutator ≡ true

-- ---- the whole

-- a run between two records: it lies in the spaces, and less than a page is left of it
abbrev pub FitsRun : (pages : ℕ) → Option Run → Type 0
FitsRun n None = ⊤
FitsRun n (Some run) = RunLiesInSpaces n run × (run.end < run.at + PAGE_WORDS)

abbrev pub AreValues : List ℕ → Type 0
AreValues registers = (r : ℕ) → r < REGISTERS → IsValueWord (slice_index registers r)

-- numbers of checkpoints, all 0 if there is no room for any
pub record AreNumbers (checkpoints : Bool) (snap running : ℕ) : Type 0 where
  pub snap_fits : snap < 2 ^ 32
  pub running_fits : running < 2 ^ 32
  pub none : checkpoints ≡ false → (snap ≡ 0) × (running ≡ 0)

-- What a worker is at any stage, by its parts: worker k of a heap with n pages a space and so many mutators.
pub record IsWorkerOf (n mutators k : ℕ) (own : ℕ) (layout : Layout) (others now snap running : ℕ) (words printed : List ℕ) (own_run : Option Run) : Type 0 where
  pub number : own ≡ k
  pub few : k ≤ LAST_WORKER
  pub pages : layout.pages ≡ n
  pub counted : IsPageCount n
  pub beside : others ≡ mutators
  pub epoch : now < 2 ^ 32
  pub numbers : AreNumbers layout.checkpoints snap running
  pub eight : length words ≡ REGISTERS
  pub registers : AreValues words
  pub few_printed : length printed ≤ MOST_PRINTED
  pub run : FitsRun n own_run

-- It names the parts alone: so it is one and the same of a worker with another stage, task or account, but for the numbers printed.
abbrev pub IsWorker : (n mutators k : ℕ) → Held → Type 0
IsWorker n mutators k x = IsWorkerOf n mutators k x.number x.layout x.mutators x.epoch x.snap x.running x.registers x.account.printed x.run

-- it is such a worker, and sound at its stage
pub record Fits (n mutators k : ℕ) (x : Held) : Type 0 where
  pub worker : IsWorker n mutators k x
  pub open worker use *
  pub end : FitsEnd x.stage (is_some x.account.end)
  pub side : IsOnSide x.stage (nat_lt x.number x.mutators) (is_some x.account.end)
  pub task : FitsTask x x.stage
  pub stage : FitsStage x x.stage

-- a mutator's round reads in SNAP what the mutator read when it began to run
abbrev pub ReadsSame : Held → Goal → SaveRoundStage → Reply → Type 0
ReadsSame x ForScanner stage reply = ⊤
ReadsSame x goal save_round_stage.LoadsSnap (Value word) = word ≡ x.snap
ReadsSame x goal stage reply = ⊤

-- the machine at a stage may take the reply
abbrev pub TakesAt : Held → Stage → Reply → Type 0
TakesAt x Looks reply = ⊤
TakesAt x (Passes g after) reply = IsSoundPassing (gate.taken g reply)
TakesAt x (Flips f) reply = IsSoundFlipping (flip.taken f reply)
TakesAt x (Forwards w) reply = evac_sound.IsSound (evac_taken.taken w.evac reply)
TakesAt x (Accesses a) reply = access.AccessTakes a.stage reply
TakesAt x (Places p) reply = IsSoundPlacing (place.taken p reply)
TakesAt x (Serves d back) reply = IsSoundRound (duty.taken d reply)
TakesAt x (Scans s back) reply = scan_sound.IsSound (scan_taken.taken s reply)
TakesAt x (Evacuates v s back) reply = evac_sound.IsSound (evac_taken.taken v reply)
TakesAt x (Opens o s back) reply = IsSoundOpening (open_page.taken o reply)
TakesAt x (Recalls r after) reply = ⊤
TakesAt x (Guards g write) reply = ⊤
TakesAt x (Checkpoints r goal) reply = ReadsSame x goal r.stage reply
TakesAt x (BeginsCheckpoint s) reply = ⊤
TakesAt x Gone reply = ⊤

-- what a worker asks of a reply
abbrev pub Takes : Held → Reply → Type 0
Takes x reply = TakesAt x x.stage reply
