-- A heap with one mutator and no other worker: what the mutator has read is so still, since nobody else makes a step.
use Rattle.std.specs.Prelude.{◌≡◌, ◌≢◌, ℕ, ◌+◌, ◌<◌, ◌≤◌, ◌⊎◌, ⊤, Bool, true, false, Option, length, None}
use Rattle.space_map.specs.declared.spaces.TheConstants.{LAST_WORKER}
use Rattle.space_map.specs.Spaces.{Layout, to_space}
use Rattle.alloc_end.specs.declared.place_stage.PlaceStage.{PlaceStage}
use Rattle.alloc_end.specs.declared.place_stage.PlaceStage.TheVariants as place_stage
use Rattle.alloc_end.specs.Place.{Placing}
use Rattle.forwarding.specs.declared.evac_stage.EvacStage.{EvacStage}
use Rattle.forwarding.specs.declared.evac_stage.EvacStage.TheVariants as evac_stage
use Rattle.gate_core.specs.declared.passage.Passage.{Passage}
use Rattle.gate_core.specs.declared.passage.Passage.TheVariants.{Look, Attach, Park, Request, Resume, Forwarded, Leave, Clear}
use Rattle.gate_core.specs.declared.gate_stage.GateStage.{GateStage}
use Rattle.gate_core.specs.declared.gate_stage.GateStage.TheVariants.{Loads, Exchanges, Ended}
use Rattle.heap_state.specs.Configuration.{table}
use Rattle.heap_state.specs.Memory.Era.{era_of, memory_of}
use Rattle.heap_state.specs.Memory.Table.{Table}
use Rattle.heap_state.specs.Saving.Words.{Saves}
use Rattle.page_saves.specs.declared.guard_stage.GuardStage.{GuardStage}
use Rattle.page_saves.specs.declared.guard_stage.GuardStage.TheVariants as guard_stage
use Rattle.page_saves.specs.declared.save_round_stage.SaveRoundStage.{SaveRoundStage}
use Rattle.page_saves.specs.declared.save_round_stage.SaveRoundStage.TheVariants as save_round_stage
use Rattle.page_saves.specs.declared.save_stage.SaveStage.{SaveStage}
use Rattle.page_saves.specs.declared.save_stage.SaveStage.TheVariants as save_stage
use Rattle.page_saves.specs.Save.{PageSaving}
use Rattle.record_access.specs.declared.access_stage.AccessStage.{AccessStage}
use Rattle.record_access.specs.declared.access_stage.AccessStage.TheVariants.{LooksAtRecord, LooksAtCount, LooksAtField, ExchangesField, LooksAtBoard, SwapsBoard}
use Rattle.gc_worker.specs.declared.stage.after.After.{After}
use Rattle.gc_worker.specs.declared.stage.after.After.TheVariants as afters
use Rattle.gc_worker.specs.declared.stage.back.Back.{Back}
use Rattle.gc_worker.specs.declared.stage.back.Back.TheVariants.{ToAccess, ToTarget, ToPlace, ToSnap, ToScanner}
use Rattle.gc_worker.specs.declared.stage.goal.Goal.{Goal}
use Rattle.gc_worker.specs.declared.stage.goal.Goal.TheVariants.{ForFlip, ForSnap, ForScanner}
use Rattle.gc_worker.specs.declared.stage.write.Write.{Write}
use Rattle.gc_worker.specs.declared.stage.write.Write.TheVariants.{OfAccess, OfPlace}
use Rattle.gc_worker.specs.declared.stage.Stage.{Stage}
use Rattle.gc_worker.specs.declared.stage.Stage.TheVariants.{Looks, Passes, Flips, Forwards, Accesses, Places, Serves, Scans, Evacuates, Opens, Recalls, Guards, Checkpoints, BeginsCheckpoint, Gone}
use Rattle.record_access.specs.Access.{board_at, field_at}
use Rattle.gc_worker.specs.Workers.Begun.{IsPastLook}
use Rattle.gc_worker.specs.Workers.Held.{Held}
use Rattle.gc_worker.specs.Laws.Step.{Heap, read, held_at, saves_in}
use Rattle.lone_mutator.specs.Copies.{CopyStands}
use Rattle.lone_mutator.specs.Potential.{potential_in}
use Rattle.lone_mutator.specs.Rounds.{RoundStands}
use Rattle.lone_mutator.specs.Saving.{saving_in}

-- ---- what it has read, by its stage

-- the gate is as it was read
abbrev pub GateStands : Table → GateStage → Type 0
GateStands t (Exchanges gate) = t.gate ≡ gate
GateStands t Loads = ⊤
GateStands t (Ended result) = ⊤

-- a stopped mutator goes on with an allocation, whose instruction began before the gate's epoch
pub record GoesOnPlacing (epoch begun : ℕ) (after : After) : Type 0 where
  pub places : after ≡ afters.Places
  pub earlier : begun < epoch

-- or, after it has begun a checkpoint, at a look, in the gate's epoch
pub record GoesOnLooking (epoch own : ℕ) (after : After) : Type 0 where
  pub looks : after ≡ afters.Looks
  pub present : own ≡ epoch

abbrev pub GoesOn : Table → Held → After → Type 0
GoesOn t x after = GoesOnPlacing t.gate.epoch x.begun after ⊎ GoesOnLooking t.gate.epoch x.epoch after

-- it stops for its own flip and its own checkpoint alone
abbrev pub PassageStands : Table → Held → Passage → After → Type 0
PassageStands t x Look after = ⊥
PassageStands t x Attach after = ⊤
PassageStands t x Park after = ⊥
PassageStands t x Request after = ⊤
PassageStands t x (Resume epoch) after = GoesOn t x after
PassageStands t x Forwarded after = GoesOnPlacing t.gate.epoch x.begun after
PassageStands t x Leave after = ⊥
PassageStands t x Clear after = ⊤

-- the field's word, or the board's, is as it was read
abbrev pub AccessStands : Table → Layout → AccessStage → Type 0
AccessStands t l (ExchangesField f e old) = t.heap (field_at f) ≡ old
AccessStands t l (SwapsBoard s old) = t.heap (board_at l s.word) ≡ old
AccessStands t l stage = ⊤

-- an access faults at a look
abbrev pub IsLook : AccessStage → Type 0
IsLook (LooksAtRecord r) = ⊤
IsLook (LooksAtCount m) = ⊤
IsLook (LooksAtField f usage) = ⊤
IsLook (LooksAtBoard b) = ⊤
IsLook stage = ⊥

abbrev pub BackStands : Back → Type 0
BackStands (ToAccess a) = IsLook a.stage
BackStands (ToTarget a) = ⊤
BackStands ToPlace = ⊤
BackStands ToSnap = ⊤
BackStands ToScanner = ⊥

-- where TRACED was read as of another epoch it is, and the area is as it was read
abbrev pub PlaceStands : Table → Placing → PlaceStage → Type 0
PlaceStands t p (place_stage.LoadsSize false) = t.traced ≢ p.epoch + 1
PlaceStands t p (place_stage.LoadsArea false size) = t.traced ≢ p.epoch + 1
PlaceStands t p (place_stage.ExchangesArea f) = t.area (to_space p.epoch) ≡ f.area
PlaceStands t p stage = ⊤

-- what is written after a look at its page
abbrev pub WriteStands : Table → Write → Type 0
WriteStands t (OfAccess a) = AccessStands t a.spaces a.stage
WriteStands t (OfPlace p) = PlaceStands t p p.stage

-- ---- what it has read of checkpoints

-- a page's SAVE is as it was read
abbrev pub SaveStands : Saves → PageSaving → SaveStage → Type 0
SaveStands s v save_stage.Exchanges = s.save v.page ≡ v.found
SaveStands s v stage = ⊤

abbrev pub GuardStands : Saves → GuardStage → Type 0
GuardStands s (guard_stage.Saves v) = SaveStands s v v.stage
GuardStands s stage = ⊤

-- a checkpoint is in progress, and no page was being saved by another worker
abbrev pub IsRoundFree : Saves → (busy : Option ℕ) → Type 0
IsRoundFree s busy = (s.done < s.snap) × (busy ≡ None)

abbrev pub SaveRoundStands : Saves → SaveRoundStage → Type 0
SaveRoundStands s (save_round_stage.LoadsPage page busy) = IsRoundFree s busy
SaveRoundStands s (save_round_stage.LoadsSave page busy) = IsRoundFree s busy
SaveRoundStands s (save_round_stage.Saves v) = SaveStands s v v.stage
SaveRoundStands s save_round_stage.ExchangesDone = s.done < s.snap
SaveRoundStands s stage = ⊤

-- a save round is a mutator's
abbrev pub GoalStands : Goal → Type 0
GoalStands ForFlip = ⊤
GoalStands ForSnap = ⊤
GoalStands ForScanner = ⊥

-- ---- all of it

abbrev pub StageStands : Table → Saves → Held → Stage → Type 0
StageStands t s x Looks = ⊤
StageStands t s x (Passes g after) = PassageStands t x g.passage after × GateStands t g.stage
StageStands t s x (Flips f) = ⊤
StageStands t s x (Forwards w) = GoesOnPlacing t.gate.epoch x.begun w.after × CopyStands t w.evac w.evac.stage
StageStands t s x (Accesses a) = AccessStands t a.spaces a.stage
StageStands t s x (Places p) = PlaceStands t p p.stage
StageStands t s x (Serves d back) = RoundStands (era_of t) (memory_of t) d back × BackStands back
StageStands t s x (Scans z back) = BackStands back
StageStands t s x (Evacuates v z back) = CopyStands t v v.stage × BackStands back
StageStands t s x (Opens o z back) = BackStands back
StageStands t s x (Recalls r after) = GoesOnPlacing t.gate.epoch x.begun after ⊎ (after ≡ afters.Looks)
StageStands t s x (Guards g write) = GuardStands s g.stage × WriteStands t write
StageStands t s x (Checkpoints r goal) = SaveRoundStands s r.stage × GoalStands goal
StageStands t s x (BeginsCheckpoint z) = ⊤
StageStands t s x Gone = ⊤

-- ---- what it announces

abbrev pub is_announced : EvacStage → Bool
is_announced (evac_stage.Reserves kept area) = true
is_announced (evac_stage.StoresHeader r) = true
is_announced (evac_stage.LoadsWord r i) = true
is_announced (evac_stage.StoresWord r w) = true
is_announced (evac_stage.StoresCross r page) = true
is_announced (evac_stage.StoresForward r) = true
is_announced (evac_stage.LoadsWeak to) = true
is_announced (evac_stage.StoresLink to head) = true
is_announced (evac_stage.TakesWeak to head) = true
is_announced (evac_stage.Clears to) = true
is_announced stage = false

-- whether it announces the place of a copy
abbrev pub announces : Stage → Bool
announces (Forwards w) = is_announced w.evac.stage
announces (Evacuates v s back) = is_announced v.stage
announces stage = false

-- nobody else announces a place
abbrev pub NobodyElseAnnounces : (announced : ℕ → ℕ) (own : Bool) → Type 0
NobodyElseAnnounces announced own = (k : ℕ) → k ≤ LAST_WORKER → (k ≡ 0 → own ≡ false) → announced k ≡ 0

-- ---- the whole

-- what a mutator remembers is so
pub record Remembers (t : Table) (s : Saves) (x : Held) : Type 0 where
  pub began : IsPastLook x.stage → x.begun ≤ x.epoch
  pub quiet : NobodyElseAnnounces t.announced (announces x.stage)
  pub stands : StageStands t s x x.stage

-- one mutator without an end, and no other worker
pub record IsLone (h : Heap) : Type 0 where
  pub one : length h.workers ≡ 1
  pub alone : h.mutators ≡ 1
  pub no_end : (held_at h 0).account.end ≡ None
  pub remembers : Remembers (table (read h)) (saves_in h) (held_at h 0)

-- what it has still to pay, for a checkpoint in progress too
abbrev pub potential : Heap → ℕ
potential h = potential_in h.pages (table (read h)) (held_at h 0) + saving_in h.checkpoints h.pages (saves_in h)
