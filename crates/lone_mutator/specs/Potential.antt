-- What a lone mutator has still to pay before its instruction is done, by its stage, beside what pages of a checkpoint in progress pay: at
-- least the steps that it will make.
use Rattle.std.specs.Prelude.{ℕ, ◌+◌, ◌-◌, ◌*◌, Bool, true, false, Option, Some, None, nat_lt, if◌then◌else◌}
use Rattle.space_map.specs.Spaces.{to_space}
use Rattle.alloc_end.specs.declared.place_stage.PlaceStage.{PlaceStage}
use Rattle.alloc_end.specs.declared.place_stage.PlaceStage.TheVariants as place_stage
use Rattle.alloc_end.specs.Place as place
use Rattle.cell_walk.specs.declared.walk_stage.WalkStage.{WalkStage}
use Rattle.cell_walk.specs.declared.walk_stage.WalkStage.TheVariants.{LoadsTurn, TakesTurn}
use Rattle.fault_duty.specs.declared.duty_stage.DutyStage.{DutyStage}
use Rattle.fault_duty.specs.declared.duty_stage.DutyStage.TheVariants as duty_stage
use Rattle.fault_duty.specs.Duty as duty
use Rattle.gate_core.specs.declared.passage.Passage.{Passage}
use Rattle.gate_core.specs.declared.passage.Passage.TheVariants.{Look, Attach, Park, Request, Resume, Forwarded, Leave, Clear}
use Rattle.gate_core.specs.declared.gate_stage.GateStage.{GateStage}
use Rattle.gate_core.specs.Flip as flip
use Rattle.gate_core.specs.Gate as gate
use Rattle.gate_core.specs.Recall as recall
use Rattle.gate_core.specs.Snap as snap
use Rattle.page_saves.specs.declared.save_round_stage.SaveRoundStage.{SaveRoundStage}
use Rattle.page_saves.specs.declared.save_round_stage.SaveRoundStage.TheVariants as save_round_stage
use Rattle.page_saves.specs.declared.save_stage.SaveStage.{SaveStage}
use Rattle.page_saves.specs.declared.save_stage.SaveStage.TheVariants as save_stage
use Rattle.page_saves.specs.Guard as guard
use Rattle.page_saves.specs.SaveRound as save_round
use Rattle.page_scan.specs.Left as scan
use Rattle.page_slots.specs.Open as open_page
use Rattle.heap_state.specs.Memory.Table.{Table}
use Rattle.record_access.specs.declared.access.Access.{Access}
use Rattle.record_access.specs.declared.access_stage.AccessStage.{AccessStage}
use Rattle.record_access.specs.declared.access_stage.AccessStage.TheVariants.{LooksAtRecord, LoadsHeader}
use Rattle.gc_worker.specs.declared.stage.after.After.{After}
use Rattle.gc_worker.specs.declared.stage.after.After.TheVariants as afters
use Rattle.gc_worker.specs.declared.stage.back.Back.{Back}
use Rattle.gc_worker.specs.declared.stage.back.Back.TheVariants.{ToAccess, ToTarget, ToPlace, ToSnap, ToScanner}
use Rattle.gc_worker.specs.declared.stage.write.Write.{Write}
use Rattle.gc_worker.specs.declared.stage.write.Write.TheVariants.{OfAccess, OfPlace}
use Rattle.gc_worker.specs.declared.stage.Stage.{Stage}
use Rattle.gc_worker.specs.declared.stage.Stage.TheVariants.{Looks, Passes, Flips, Forwards, Accesses, Places, Serves, Scans, Evacuates, Opens, Recalls, Guards, Checkpoints, BeginsCheckpoint, Gone}
use Rattle.record_access.specs.Access as access
use Rattle.gc_worker.specs.Steps.Turned.{after_goal}
use Rattle.gc_worker.specs.Workers.Held.{Held}
use Rattle.lone_mutator.specs.Bound.{round_cost, growths, flips_cost, guard_cost, longest_tracing, most_pages, longest_placing, recall_cost, save_round_cost, snap_cost, whole_cost}
use Rattle.lone_mutator.specs.Copies.{copy_left}
use Rattle.lone_mutator.specs.Tracing.{tracing_left, tracing_due}

-- ---- the flips that may still come

-- the flips that it may still request in an epoch whose space has so many pages in use: those after which the space grows, and one more,
-- unless one came since its instruction began
abbrev pub flips_left : (n size : ℕ) → Held → ℕ
flips_left n size x = growths n size + (if nat_lt x.begun x.epoch then 0 else 1)

abbrev pub flip_left : (n size : ℕ) → Held → ℕ
flip_left n size x = flips_cost n (flips_left n size x)

-- those after the one that it requests
abbrev pub later_left : (n size : ℕ) → Held → ℕ
later_left n size x = flips_cost n (flips_left n size x - 1)

-- those that may come in an instruction that has seen one
abbrev pub growing_left : (n size : ℕ) → ℕ
growing_left n size = flips_cost n (growths n size)

-- ---- by the worker alone

-- the look that is still to come before an access writes a word
abbrev pub look_left : (written : Option ℕ) → ℕ
look_left None = guard_cost
look_left (Some page) = 0

-- the round that may still have to find the epoch traced, for the target of a cell: until the header is read, any record may be one
abbrev pub wait_left : (n : ℕ) → AccessStage → ℕ
wait_left n (LooksAtRecord r) = round_cost n
wait_left n (LoadsHeader r) = round_cost n
wait_left n stage = 0

abbrev pub access_left : (n : ℕ) → Access → ℕ
access_left n a = access.left a + wait_left n a.stage + look_left (access.writes_on a.spaces a.stage)

-- those that are still to come before an allocation writes words of its record
abbrev pub looks_left : PlaceStage → ℕ
looks_left place_stage.StoresCount = guard_cost
looks_left place_stage.StoresTarget = 2 * guard_cost
looks_left place_stage.StoresLink = guard_cost
looks_left place_stage.StoresHeader = 0
looks_left stage = 3 * guard_cost

-- an allocation is dear as long as pages may have to be claimed
abbrev pub place_left : (n size : ℕ) → Held → place.Placing → PlaceStage → ℕ
place_left n size x p place_stage.LoadsTraced = place.left_at most_pages place_stage.LoadsTraced + 3 * guard_cost + flip_left n size x
place_left n size x p (place_stage.LoadsSize traced) = place.left_at most_pages (place_stage.LoadsSize traced) + 3 * guard_cost + flip_left n size x
place_left n size x p (place_stage.LoadsArea traced read) = place.left_at most_pages (place_stage.LoadsArea traced read) + 3 * guard_cost + flip_left n size x
place_left n size x p stage = place.left_at (place.pages_for (place.size_of p.header)) stage + looks_left stage

-- what is written after a look
abbrev pub write_left : (n size : ℕ) → Held → Write → ℕ
write_left n size x (OfAccess a) = access_left n a
write_left n size x (OfPlace p) = place_left n size x p p.stage

-- the steps of a round's walk over the chain of cells, as long as the round may come to the turn
abbrev pub walk_ahead_at : duty.Round → WalkStage → ℕ
walk_ahead_at d LoadsTurn = duty.walk_left d
walk_ahead_at d (TakesTurn found) = duty.walk_left d
walk_ahead_at d stage = 0

abbrev pub walk_ahead : duty.Round → DutyStage → ℕ
walk_ahead d (duty_stage.Claims c) = 0
walk_ahead d (duty_stage.Walks traced v) = walk_ahead_at d v.stage
walk_ahead d (duty_stage.Traces traced) = 0
walk_ahead d (duty_stage.Ended result) = 0
walk_ahead d stage = duty.walk_left d

-- what a round has left without those: the tracing pays them once an epoch, when the turn is taken
abbrev pub round_steps : duty.Round → DutyStage → ℕ
round_steps d stage = duty.left_at d stage - walk_ahead d stage

-- what it goes back to after a round
abbrev pub back_left : (n size : ℕ) → Held → Back → ℕ
back_left n size x (ToAccess a) = access_left n a
back_left n size x (ToTarget a) = access_left n a
back_left n size x ToPlace = longest_placing + flip_left n size x
back_left n size x ToSnap = snap_cost
back_left n size x ToScanner = 0

-- a save that is won is paid by its page, and so is the round after it
abbrev pub saved_left : (n : ℕ) → SaveStage → ℕ
saved_left n save_stage.Exchanges = 0
saved_left n stage = save_round_cost n

abbrev pub save_round_left : (n : ℕ) → SaveRoundStage → ℕ
save_round_left n (save_round_stage.Saves s) = saved_left n s.stage
save_round_left n stage = 0

-- the registers from this one on
abbrev pub registers_left : (register : ℕ) → ℕ
registers_left j = 5 * (7 - j) + 4

-- ---- with what the tracing still costs: this in the midst of it, or this before a round

-- the round that who begins a checkpoint, or loads the target of a cell, makes after each that traces something
abbrev pub again_left : (n : ℕ) → Back → ℕ
again_left n (ToAccess a) = 0
again_left n (ToTarget a) = round_cost n
again_left n ToPlace = 0
again_left n ToSnap = round_cost n
again_left n ToScanner = 0

-- in the midst of a round, with that one: there is none in a traced epoch
abbrev pub round_left : (left due : ℕ) → Back → ℕ
round_left left due (ToAccess a) = left
round_left left due (ToTarget a) = due
round_left left due ToPlace = left
round_left left due ToSnap = due
round_left left due ToScanner = left

-- where a stopped mutator goes on: with its allocation, after its own flip, or at a look
abbrev pub after_left : (n growing due : ℕ) → After → ℕ
after_left n growing due afters.Looks = whole_cost n + due
after_left n growing due afters.Places = longest_placing + growing + due
after_left n growing due afters.Snaps = 0

-- after its request: the flip and the tracing of the new epoch, with what the flips after it cost; or the beginning of a checkpoint
abbrev pub request_left : (n later : ℕ) → After → ℕ
request_left n later afters.Looks = 0
request_left n later afters.Places = 52 + recall_cost + longest_placing + longest_tracing n + later
request_left n later afters.Snaps = 2

-- at the gate, where its epoch is the gate's or the one before; with what the flips after the next one cost, and those that make the
-- space grow
abbrev pub passage_left : (n later growing due : ℕ) (late : Bool) → After → Passage → GateStage → ℕ
passage_left n later growing due late after Attach stage = gate.left_at Attach stage + recall_cost + whole_cost n + due
passage_left n later growing due late after Request stage = gate.left_at Request stage + request_left n later after
passage_left n later growing due true after (Resume epoch) stage = 45 + recall_cost + longest_placing + growing + due
passage_left n later growing due false after (Resume epoch) stage = gate.left_at (Resume epoch) stage + recall_cost + after_left n growing due after
passage_left n later growing due late after Forwarded stage = gate.left_at Forwarded stage + 2 + recall_cost + longest_placing + growing + due
passage_left n later growing due late after Clear stage = gate.left_at Clear stage + 2 + recall_cost + whole_cost n + due
passage_left n later growing due late after Look stage = 0
passage_left n later growing due late after Park stage = 0
passage_left n later growing due late after Leave stage = 0

abbrev pub stage_left : (n size left due : ℕ) (late : Bool) → Held → Stage → ℕ
stage_left n size left due late x Looks = whole_cost n + due
stage_left n size left due late x (Passes g after) = passage_left n (later_left n size x) (growing_left n size) due late after g.passage g.stage
stage_left n size left due late x (Flips f) = flip.left f + 45 + recall_cost + longest_placing + longest_tracing n + later_left n size x
stage_left n size left due late x (Forwards w) = copy_left w.evac.stage + registers_left w.register + recall_cost + longest_placing + growing_left n size + due
stage_left n size left due late x (Accesses a) = access_left n a + due
stage_left n size left due late x (Places p) = place_left n size x p p.stage + due
stage_left n size left due late x (Serves d back) = round_steps d d.stage + back_left n size x back + round_left left due back
stage_left n size left due late x (Scans s back) = scan.left s + 1 + round_cost n + back_left n size x back + again_left n back + left
stage_left n size left due late x (Evacuates v s back) = copy_left v.stage + scan.left s + 1 + round_cost n + back_left n size x back + again_left n back + left
stage_left n size left due late x (Opens o s back) = open_page.left o + round_cost n + back_left n size x back + again_left n back + left
stage_left n size left due late x (Recalls r after) = recall.left r + after_left n (growing_left n size) due after
stage_left n size left due late x (Guards g write) = guard.left g + write_left n size x write + due
stage_left n size left due late x (Checkpoints r goal) = save_round.left r + save_round_left n r.stage + 2 + request_left n (later_left n size x) (after_goal goal)
stage_left n size left due late x (BeginsCheckpoint s) = snap.left s
stage_left n size left due late x Gone = 0

-- ---- by what the table says

-- the pages in use of the space of the gate's epoch
abbrev pub size_in : Table → ℕ
size_in t = t.in_use (to_space t.gate.epoch)

abbrev pub left_in : ℕ → Table → ℕ
left_in n t = tracing_left n t.gate.epoch t.traced t.weak_turn (t.area (to_space t.gate.epoch)).owed t.page

abbrev pub due_in : ℕ → Table → ℕ
due_in n t = tracing_due n t.gate.epoch t.traced t.weak_turn (t.area (to_space t.gate.epoch)).owed t.page

abbrev pub potential_at : ℕ → Table → Held → Stage → ℕ
potential_at n t x stage = stage_left n (size_in t) (left_in n t) (due_in n t) (nat_lt x.epoch t.gate.epoch) x stage

abbrev pub potential_in : ℕ → Table → Held → ℕ
potential_in n t x = potential_at n t x x.stage
