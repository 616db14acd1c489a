-- A machine that has come to its end makes way for another one, but for a round that is over and a worker that waits for others.
use Rattle.std.specs.Prelude.{◌≡◌, ◌⊎◌, ℕ, ⊤}
use Rattle.atom_store.specs.declared.reply.Reply.{Reply}
use Rattle.atom_store.specs.declared.turn.Turn.TheVariants.{Finished}
use Rattle.alloc_end.specs.declared.allocated.Allocated.{Allocated}
use Rattle.alloc_end.specs.Place as place
use Rattle.fault_duty.specs.declared.round_end.RoundEnd.{RoundEnd}
use Rattle.fault_duty.specs.Duty as duty
use Rattle.forwarding.specs.declared.to.To.{To}
use Rattle.forwarding.specs.Taken as evac_taken
use Rattle.gate_core.specs.declared.flipped.Flipped.{Flipped}
use Rattle.gate_core.specs.declared.flipped.Flipped.TheVariants as flipped
use Rattle.gate_core.specs.declared.passage.Passage.{Passage}
use Rattle.gate_core.specs.declared.passage.Passage.TheVariants.{Attach, Resume}
use Rattle.gate_core.specs.declared.passed.Passed.{Passed}
use Rattle.gate_core.specs.declared.passed.Passed.TheVariants as passed
use Rattle.gate_core.specs.Flip as flip
use Rattle.gate_core.specs.Gate as gate
use Rattle.gate_core.specs.declared.recall.recalled.Recalled.{Recalled}
use Rattle.gate_core.specs.declared.snap.snapped.Snapped.{Snapped}
use Rattle.gate_core.specs.declared.snap.snapped.Snapped.TheVariants as snapped
use Rattle.gate_core.specs.Recall as recall
use Rattle.gate_core.specs.Snap as snap
use Rattle.page_saves.specs.declared.may_write.MayWrite.{MayWrite}
use Rattle.page_saves.specs.declared.save_round_end.SaveRoundEnd.{SaveRoundEnd}
use Rattle.page_saves.specs.Guard as guard
use Rattle.page_saves.specs.SaveRound as save_round
use Rattle.page_scan.specs.declared.scanned.Scanned.{Scanned}
use Rattle.page_scan.specs.Taken as scan_taken
use Rattle.page_slots.specs.declared.opened.Opened.{Opened}
use Rattle.page_slots.specs.Open as open_page
use Rattle.record_access.specs.declared.accessed.Accessed.{Accessed}
use Rattle.record_access.specs.Access as access
use Rattle.gc_worker.specs.Workers.Fits.{Fits}
use Rattle.gc_worker.specs.Workers.Held.{Held}
use Rattle.gc_worker.specs.Steps.Turned.{turned}
use Rattle.gc_worker.specs.declared.stage.back.Back.TheVariants.{ToTarget, ToSnap, ToScanner}
use Rattle.gc_worker.specs.declared.stage.Stage.{Stage}
use Rattle.gc_worker.specs.declared.stage.Stage.TheVariants.{Looks, Passes, Flips, Forwards, Accesses, Places, Serves, Scans, Evacuates, Opens, Recalls, Guards, Checkpoints, BeginsCheckpoint, Gone}

-- the machine at work at one stage is at work at the other too, or one of its sort that does the same; a look at the gate is one of its own
abbrev pub IsSameMachine : Stage → Stage → Type 0
IsSameMachine Looks Looks = ⊤
IsSameMachine (Passes g after) (Passes next later) = next.passage ≡ g.passage
IsSameMachine (Flips f) (Flips next) = ⊤
IsSameMachine (Forwards w) (Forwards next) = next.register ≡ w.register
IsSameMachine (Accesses a) (Accesses next) = ⊤
IsSameMachine (Places p) (Places next) = ⊤
IsSameMachine (Serves d back) (Serves next later) = ⊤
IsSameMachine (Scans s back) (Scans next later) = ⊤
IsSameMachine (Evacuates v s back) (Evacuates next t later) = ⊤
IsSameMachine (Opens o s back) (Opens next t later) = ⊤
IsSameMachine (Recalls r after) (Recalls next later) = ⊤
IsSameMachine (Guards g write) (Guards next later) = ⊤
IsSameMachine (Checkpoints r goal) (Checkpoints next later) = ⊤
IsSameMachine (BeginsCheckpoint s) (BeginsCheckpoint next) = ⊤
IsSameMachine stage next = ⊥

-- who is about to come in, or to run on, may have to wait at the gate
abbrev pub MayWait : Passage → Type 0
MayWait Attach = ⊤
MayWait (Resume epoch) = ⊤
MayWait passage = ⊥

-- The worker waits for others: the gate doesn't let it in or run on yet, or mutators run or are behind while it is to flip or to begin a
-- checkpoint; or it is a scanner, whose round has come to its end.
abbrev pub IsWaiting : Stage → Reply → Type 0
IsWaiting (Passes g after) reply = MayWait g.passage × ((word : ℕ) × (gate.told (gate.taken g reply) ≡ Finished (passed.NotYet word)))
IsWaiting (Flips f) reply = (word : ℕ) × (flip.told (flip.taken f reply) ≡ Finished (flipped.NotYet word))
IsWaiting (Serves d ToScanner) reply = (result : RoundEnd) × (duty.told (duty.taken d reply) ≡ Finished result)
IsWaiting (BeginsCheckpoint s) reply = (word : ℕ) × (snap.told (snap.taken s reply) ≡ Finished (snapped.NotYet word))
IsWaiting stage reply = ⊥

-- A round of a mutator has come to its end, and the next one begins: one of the duty, until the epoch is traced, before the target of a cell
-- is loaded or a checkpoint is begun; or one for a checkpoint that is in progress.
abbrev pub IsRoundOver : Stage → Reply → Type 0
IsRoundOver (Serves d (ToTarget a)) reply = (result : RoundEnd) × (duty.told (duty.taken d reply) ≡ Finished result)
IsRoundOver (Serves d ToSnap) reply = (result : RoundEnd) × (duty.told (duty.taken d reply) ≡ Finished result)
IsRoundOver (Checkpoints r goal) reply = (result : SaveRoundEnd) × (save_round.told (save_round.taken r reply) ≡ Finished result)
IsRoundOver stage reply = ⊥

-- the machine at work at a stage comes to its end by this reply; a look at the gate is none
abbrev pub ComesToEnd : Stage → Reply → Type 0
ComesToEnd Looks reply = ⊥
ComesToEnd (Passes g after) reply = (result : Passed) × (gate.told (gate.taken g reply) ≡ Finished result)
ComesToEnd (Flips f) reply = (result : Flipped) × (flip.told (flip.taken f reply) ≡ Finished result)
ComesToEnd (Forwards w) reply = (to : To) × (evac_taken.told (evac_taken.taken w.evac reply).stage ≡ Finished to)
ComesToEnd (Accesses a) reply = (result : Accessed) × (access.told a reply ≡ Finished result)
ComesToEnd (Places p) reply = (result : Allocated) × (place.told (place.taken p reply) ≡ Finished result)
ComesToEnd (Serves d back) reply = (result : RoundEnd) × (duty.told (duty.taken d reply) ≡ Finished result)
ComesToEnd (Scans s back) reply = (result : Scanned) × (scan_taken.told (scan_taken.taken s reply).stage ≡ Finished result)
ComesToEnd (Evacuates v s back) reply = (to : To) × (evac_taken.told (evac_taken.taken v reply).stage ≡ Finished to)
ComesToEnd (Opens o s back) reply = (result : Opened) × (open_page.told (open_page.taken o reply) ≡ Finished result)
ComesToEnd (Recalls r after) reply = (result : Recalled) × (recall.told (recall.taken r reply) ≡ Finished result)
ComesToEnd (Guards g write) reply = (result : MayWrite) × (guard.told (guard.taken g reply) ≡ Finished result)
ComesToEnd (Checkpoints r goal) reply = (result : SaveRoundEnd) × (save_round.told (save_round.taken r reply) ≡ Finished result)
ComesToEnd (BeginsCheckpoint s) reply = (result : Snapped) × (snap.told (snap.taken s reply) ≡ Finished result)
ComesToEnd Gone reply = ⊥

-- If a machine has come to its end and is at work again at once, a round is over, and its next one begins, or the worker waits for others.
abbrev pub EndedMachinesMakeWay : Type 0
EndedMachinesMakeWay = (n mutators k : ℕ) (x : Held) (reply : Reply) → Fits n mutators k x → ComesToEnd x.stage reply
    → IsSameMachine x.stage (turned x reply).stage → IsRoundOver x.stage reply ⊎ IsWaiting x.stage reply
