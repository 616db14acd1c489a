-- What a worker holds of checkpoints, component by component, each by cases on its stage.
use Rattle.std.specs.Prelude.{ℕ, ◌+◌, ◌*◌, ◌==◌, ◌&&◌, Bool, not, true, false, Option, Some, None, is_some, if◌then◌else◌}
use Rattle.space_map.specs.declared.gate_word.GateWord.{GateWord}
use Rattle.space_map.specs.declared.spaces.TheConstants.{PAGE_WORDS}
use Rattle.space_map.specs.Spaces.{board_page, to_space}
use Rattle.alloc_end.specs.declared.place_stage.PlaceStage.{PlaceStage}
use Rattle.alloc_end.specs.declared.place_stage.PlaceStage.TheVariants as place_stage
use Rattle.alloc_end.specs.Place as place
use Rattle.alloc_end.specs.Place.{Placing}
use Rattle.gate_core.specs.declared.gate_stage.GateStage.{GateStage}
use Rattle.gate_core.specs.declared.gate_stage.GateStage.TheVariants as gate_stage
use Rattle.gate_core.specs.declared.passage.Passage.{Passage}
use Rattle.gate_core.specs.declared.passage.Passage.TheVariants as passages
use Rattle.gate_core.specs.declared.recall.recall_stage.RecallStage.{RecallStage}
use Rattle.gate_core.specs.declared.recall.recall_stage.RecallStage.TheVariants as recall_stage
use Rattle.gate_core.specs.declared.snap.snap_stage.SnapStage.{SnapStage}
use Rattle.gate_core.specs.declared.snap.snap_stage.SnapStage.TheVariants as snap_stage
use Rattle.heap_state.specs.Saving.Savers.{Saver, SaveStep, SaveRound, FirstReads, NoReads, GateRead, SnapRead, DoneRead}
use Rattle.heap_state.specs.Known.{is_running, is_asking}
use Rattle.heap_laws.specs.Saving.Rounds.{round_begun, round_past}
use Rattle.page_saves.specs.declared.guard_stage.GuardStage.{GuardStage}
use Rattle.page_saves.specs.declared.guard_stage.GuardStage.TheVariants as guard_stage
use Rattle.page_saves.specs.declared.save_round_stage.SaveRoundStage.{SaveRoundStage}
use Rattle.page_saves.specs.declared.save_round_stage.SaveRoundStage.TheVariants as save_round_stage
use Rattle.page_saves.specs.declared.save_stage.SaveStage.{SaveStage}
use Rattle.page_saves.specs.declared.save_stage.SaveStage.TheVariants as save_stage
use Rattle.page_saves.specs.Save.{PageSaving}
use Rattle.page_saves.specs.SaveRound.{SavingRound}
use Rattle.gc_worker.specs.declared.stage.back.Back.{Back}
use Rattle.gc_worker.specs.declared.stage.back.Back.TheVariants.{ToAccess, ToTarget, ToPlace, ToSnap, ToScanner}
use Rattle.gc_worker.specs.declared.stage.goal.Goal.{Goal}
use Rattle.gc_worker.specs.declared.stage.goal.Goal.TheVariants.{ForFlip, ForSnap, ForScanner}
use Rattle.gc_worker.specs.declared.stage.Stage.{Stage}
use Rattle.gc_worker.specs.declared.stage.Stage.TheVariants.{Passes, Flips, Accesses, Places, Serves, Scans, Evacuates, Opens, Recalls, Guards, Checkpoints, BeginsCheckpoint}
use Rattle.record_access.specs.Access.{writes_on}
use Rattle.gc_worker.specs.Workers.Held.{Held}
use Rattle.gc_worker.specs.Workers.Knows.{post_in}

-- ---- what it has read when it began to run

abbrev pub reads_snap_at : RecallStage → Bool
reads_snap_at recall_stage.LoadsSnap = true
reads_snap_at (recall_stage.LoadsDone number) = false
reads_snap_at (recall_stage.Ended result) = false

abbrev pub reads_done_at : RecallStage → Bool
reads_done_at recall_stage.LoadsSnap = false
reads_done_at (recall_stage.LoadsDone number) = true
reads_done_at (recall_stage.Ended result) = false

-- it is to read SNAP next
abbrev pub reads_snap_in : Stage → Bool
reads_snap_in (Recalls r after) = reads_snap_at r.stage
reads_snap_in stage = false

-- or DONE
abbrev pub reads_done_in : Stage → Bool
reads_done_in (Recalls r after) = reads_done_at r.stage
reads_done_in stage = false

-- SNAP as read last
abbrev pub snap_at : (own : ℕ) → RecallStage → ℕ
snap_at own recall_stage.LoadsSnap = own
snap_at own (recall_stage.LoadsDone number) = number
snap_at own (recall_stage.Ended result) = own

abbrev pub snap_in : (own : ℕ) → Stage → ℕ
snap_in own (Recalls r after) = snap_at own r.stage
snap_in own stage = own

-- the checkpoint that was in progress: none is known of, while DONE is to be read
abbrev pub running_at : (own : ℕ) → RecallStage → ℕ
running_at own recall_stage.LoadsSnap = own
running_at own (recall_stage.LoadsDone number) = 0
running_at own (recall_stage.Ended result) = own

abbrev pub running_in : (own : ℕ) → Stage → ℕ
running_in own (Recalls r after) = running_at own r.stage
running_in own stage = own

-- ---- on the way to a request, and with one

abbrev pub settled_before : Passage → Bool
settled_before passages.Request = true
settled_before passage = false

abbrev pub settled_in : Stage → Bool
settled_in (Passes g after) = settled_before g.passage
settled_in (Flips f) = true
settled_in (BeginsCheckpoint s) = true
settled_in stage = false

-- a gate that nobody has found with nobody running: it counts one
abbrev pub unfound_gate : GateWord
unfound_gate = record { epoch = 0; live = 1; running = 1; behind = 0; request = false; left = 0 }

-- Who clears the request does so from the gate that it found. That stands still, so the exchange is never lost, and nobody loads the
-- gate again to clear the request.
abbrev pub still_before : Passage → GateStage → Option GateWord
still_before passages.Clear (gate_stage.Exchanges gate) = Some gate
still_before passages.Clear gate_stage.Loads = Some unfound_gate
still_before passage stage = None

abbrev pub still_at : SnapStage → Option GateWord
still_at snap_stage.LoadsGate = None
still_at (snap_stage.ExchangesSnap gate) = Some gate
still_at (snap_stage.Ended result) = None

abbrev pub still_in : Stage → Option GateWord
still_in (Passes g after) = still_before g.passage g.stage
still_in (BeginsCheckpoint s) = still_at s.stage
still_in stage = None

-- ---- before a write

-- A page that is written while a checkpoint is in progress was found saved or new. It is still, if a round goes back to the access.
abbrev pub guarded_by : (running : ℕ) → Option ℕ → Option ℕ
guarded_by running page = if running == 0 then None else page

abbrev pub guarded_back : (running : ℕ) → Back → Option ℕ
guarded_back running (ToAccess a) = guarded_by running (writes_on a.spaces a.stage)
guarded_back running (ToTarget a) = None
guarded_back running ToPlace = None
guarded_back running ToSnap = None
guarded_back running ToScanner = None

abbrev pub guarded_in : (running : ℕ) → Stage → Option ℕ
guarded_in running (Accesses a) = guarded_by running (writes_on a.spaces a.stage)
guarded_in running (Places p) = guarded_by running (place.writes_on p p.stage)
guarded_in running (Serves d back) = guarded_back running back
guarded_in running (Scans s back) = guarded_back running back
guarded_in running (Evacuates v s back) = guarded_back running back
guarded_in running (Opens o s back) = guarded_back running back
guarded_in running stage = None

-- a page that is opened next was marked as new, if a checkpoint was begun
abbrev pub marked_at : Placing → PlaceStage → Option ℕ
marked_at p (place_stage.OpensPage new) = if p.snap == 0 then None else Some new.next
marked_at p stage = None

abbrev pub marked_in : Stage → Option ℕ
marked_in (Places p) = marked_at p p.stage
marked_in stage = None

-- ---- the save of a page

abbrev pub save_step : PageSaving → Bool → (copied : ℕ) → Option ℕ → SaveStep
save_step s won copied word = record { page = s.page; number = s.number; found = s.found; won = won; copied = copied; word = word }

abbrev pub page_save_at : PageSaving → SaveStage → Option SaveStep
page_save_at s save_stage.Exchanges = Some (save_step s false 0 None)
page_save_at s (save_stage.LoadsWord i) = Some (save_step s true i None)
page_save_at s (save_stage.StoresImage i word) = Some (save_step s true i (Some word))
page_save_at s save_stage.StoresSaved = Some (save_step s true PAGE_WORDS None)
page_save_at s (save_stage.Ended result) = None

abbrev pub save_of_guard : GuardStage → Option SaveStep
save_of_guard (guard_stage.Saves s) = page_save_at s s.stage
save_of_guard guard_stage.Looks = None
save_of_guard (guard_stage.Ended result) = None

abbrev pub save_of_round : SaveRoundStage → Option SaveStep
save_of_round (save_round_stage.Saves s) = page_save_at s s.stage
save_of_round stage = None

abbrev pub save_in : Stage → Option SaveStep
save_in (Guards g write) = save_of_guard g.stage
save_in (Checkpoints r goal) = save_of_round r.stage
save_in stage = None

-- ---- rounds

abbrev pub reads_at : SavingRound → SaveRoundStage → FirstReads
reads_at r save_round_stage.LoadsSnap = GateRead r.epoch
reads_at r save_round_stage.LoadsDone = SnapRead r.epoch r.number
reads_at r save_round_stage.LoadsGateAgain = DoneRead r.epoch r.number
reads_at r stage = NoReads

-- those of a scanner
abbrev pub reads_for : Goal → SavingRound → FirstReads
reads_for ForScanner r = reads_at r r.stage
reads_for ForFlip r = NoReads
reads_for ForSnap r = NoReads

abbrev pub reads_in : Stage → FirstReads
reads_in (Checkpoints r goal) = reads_for goal r
reads_in stage = NoReads

-- before this page: the board is the first one
abbrev pub round_to : SavingRound → (page : ℕ) → (busy : Bool) → SaveRound
round_to r page busy =
    if page == board_page r.layout.pages then record (round_begun r.layout.pages r.number r.epoch) { busy = busy } else round_past r.number r.epoch page busy

abbrev pub save_round_at : SavingRound → SaveRoundStage → Option SaveRound
save_round_at r (save_round_stage.LoadsPage page busy) = Some (round_to r page (is_some busy))
save_round_at r (save_round_stage.LoadsSave page busy) = Some (record (round_to r page (is_some busy)) { opened = Some page })
save_round_at r (save_round_stage.Saves s) = Some (round_begun r.layout.pages r.number r.epoch)
save_round_at r save_round_stage.ExchangesDone = Some (round_past r.number r.epoch (r.layout.pages * to_space r.epoch + r.layout.pages) false)
save_round_at r stage = None

abbrev pub save_round_in : Stage → Option SaveRound
save_round_in (Checkpoints r goal) = save_round_at r r.stage
save_round_in stage = None

-- ---- the whole

abbrev pub saver_at : Held → Stage → Saver
saver_at x stage = record {
  runs = is_running (post_in x stage);
  asks = is_asking (post_in x stage);
  recalled = x.layout.checkpoints && is_running (post_in x stage) && not (reads_snap_in stage);
  reads_done = reads_done_in stage;
  snap = snap_in x.snap stage;
  running = running_in x.running stage;
  settled = settled_in stage;
  still = still_in stage;
  guarded = guarded_in x.running stage;
  marked = marked_in stage;
  save = save_in stage;
  reads = reads_in stage;
  round = save_round_in stage;
}

abbrev pub saver_of : Held → Saver
saver_of x = saver_at x x.stage
