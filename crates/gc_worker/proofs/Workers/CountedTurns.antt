-- What a reply makes of a worker with another count of its instructions.
use Rattle.std.proofs.Common.{◌≡◌, ℕ, ◌+◌, Bool, true, false, cond, Option, Some, None, refl, ap, sym, ◌∙◌}
use Rattle.std.specs.Option.{option_and_then}
use Rattle.plain_state.specs.declared.end.End.{End}
use Rattle.plain_state.specs.State.{Mutator}
use Rattle.mutator_asm.specs.declared.instr.Instr.{Instr}
use Rattle.mutator_asm.specs.declared.instr.Instr.TheVariants as instrs
use Rattle.mutator_asm.specs.declared.operand.Operand.{Operand}
use Rattle.mutator_asm.specs.declared.operand.Operand.TheVariants as operands
use Rattle.plain_heap.specs.Action.{action, operand}
use Rattle.record_layout.specs.declared.header.Header.{Header}
use Rattle.atom_store.specs.declared.turn.Turn.{Turn}
use Rattle.atom_store.specs.declared.turn.Turn.TheVariants.{More, Finished}
use Rattle.alloc_end.specs.declared.allocated.Allocated.{Allocated}
use Rattle.alloc_end.specs.declared.allocated.Allocated.TheVariants.{Placed, Full}
use Rattle.alloc_end.specs.declared.shortage.Shortage.{Shortage}
use Rattle.alloc_end.specs.Place as place
use Rattle.fault_duty.specs.declared.round_end.RoundEnd.{RoundEnd}
use Rattle.fault_duty.specs.declared.round_end.RoundEnd.TheVariants.{Marked, Traced, NothingNow}
use Rattle.fault_duty.specs.Duty as duty
use Rattle.forwarding.specs.declared.to.To.{To}
use Rattle.forwarding.specs.Evacuation as evac
use Rattle.gate_core.specs.declared.flipped.Flipped.{Flipped}
use Rattle.gate_core.specs.declared.flipped.Flipped.TheVariants as flipped
use Rattle.gate_core.specs.declared.passage.Passage.{Passage}
use Rattle.gate_core.specs.declared.passage.Passage.TheVariants.{Park, Request, Resume}
use Rattle.gate_core.specs.declared.passed.Passed.{Passed}
use Rattle.gate_core.specs.declared.passed.Passed.TheVariants as passed
use Rattle.gate_core.specs.Gate as gate
use Rattle.gate_core.specs.declared.recall.recalled.Recalled.{Recalled}
use Rattle.gate_core.specs.declared.snap.snapped.Snapped.{Snapped}
use Rattle.gate_core.specs.declared.snap.snapped.Snapped.TheVariants as snapped
use Rattle.gate_core.specs.Flip as flip
use Rattle.gate_core.specs.Recall as recall
use Rattle.gate_core.specs.Snap as snap
use Rattle.page_saves.specs.declared.may_write.MayWrite.{MayWrite}
use Rattle.page_saves.specs.declared.save_round_end.SaveRoundEnd.{SaveRoundEnd}
use Rattle.page_saves.specs.declared.save_round_end.SaveRoundEnd.TheVariants as save_round_end
use Rattle.page_saves.specs.Guard as guard
use Rattle.page_saves.specs.SaveRound as save_round
use Rattle.page_scan.specs.declared.scanned.Scanned.{Scanned}
use Rattle.page_scan.specs.declared.scanned.Scanned.TheVariants as scanned
use Rattle.page_scan.specs.Scanning as scan
use Rattle.page_slots.specs.declared.opened.Opened.{Opened}
use Rattle.page_slots.specs.Open as open_page
use Rattle.record_access.specs.declared.access.Access.{Access}
use Rattle.record_access.specs.declared.accessed.Accessed.{Accessed}
use Rattle.record_access.specs.declared.accessed.Accessed.TheVariants.{Faults, Awaits, Brings, Stored, Fails}
use Rattle.gc_worker.specs.declared.stage.after.After.{After}
use Rattle.gc_worker.specs.declared.stage.after.After.TheVariants as afters
use Rattle.gc_worker.specs.declared.stage.back.Back.{Back}
use Rattle.gc_worker.specs.declared.stage.back.Back.TheVariants.{ToPlace}
use Rattle.gc_worker.specs.declared.stage.goal.Goal.{Goal}
use Rattle.gc_worker.specs.declared.stage.goal.Goal.TheVariants.{ForFlip, ForSnap, ForScanner}
use Rattle.gc_worker.specs.declared.stage.write.Write.{Write}
use Rattle.gc_worker.specs.declared.stage.Stage.{Stage}
use Rattle.gc_worker.specs.declared.stage.Stage.TheVariants.{Flips, Recalls}
use Rattle.gc_worker.specs.declared.task.Task.{Task}
use Rattle.gc_worker.specs.declared.task.Task.TheVariants.{Calls, Stops}
use Rattle.gc_worker.specs.Workers.Counted.{counted, count_after}
use Rattle.gc_worker.specs.Workers.Fits.{IsMaking}
use Rattle.gc_worker.specs.Workers.Held.{Held, at_stage, fields_for, fields_made, has_seen_flip, header_for, header_of, making_for, pages_asked, pages_needed, run_held, target_for}
use Rattle.gc_worker.specs.Plain.Seen.{Making, making_in, seen}
use Rattle.gc_worker.specs.Steps.Turned.{Silent, after_request, asks_flip, begins_checkpoint, checkpoints, end_by_shortage, ended, full_by, goes_back, goes_on, guards_place, is_full, loads, of_round, passed_by, places, recalled, rounded, rounded_by, runs_on, told_access, told_effect, told_end, told_flip, told_full, told_place, told_snap, traced_by, turned_access, turned_copy, turned_flip, turned_gate, turned_guard, turned_opening, turned_place, turned_recall, turned_round, turned_save_round, turned_scan, turned_snap, went_on, with_record}
use Rattle.gc_worker.proofs.Plain.NewRecords.{made, made_is}

-- no action depends on the count, since no operand does
same_operand : (m : Mutator) (count : ℕ) (x : Operand) → operand (record m { executed = count }) x ≡ operand m x
same_operand m count (operands.Reg r) = refl
same_operand m count _ = refl

same_action : (m : Mutator) (count : ℕ) (i : Instr) → action (record m { executed = count }) i ≡ action m i
unfolding action
same_action m count (instrs.Mix d fields raw) = simp same_operand
same_action m count _ = first_of (simp same_operand, cc)

module _ (count : ℕ) (x : Held) where
  abbrev y : Held
  y = counted count x

  pub same_acts : (instr : Instr) → action (seen y.account y.registers) instr ≡ action (seen x.account x.registers) instr
  same_acts instr = same_action (seen x.account x.registers) count instr

  same_making : (task : Option Task) → making_for y task ≡ making_for x task
  same_making None = refl
  same_making (Some (Stops end)) = refl
  same_making (Some (Calls instr)) = ap making_in (same_acts instr)

  pub same_header : header_for y ≡ header_for x
  same_header = ap (λ (m : Option Making). option_and_then (header_of x) m) (same_making x.task)

  pub same_asked : pages_needed y ≡ pages_needed x
  same_asked = ap pages_asked same_header

  -- ---- where it goes on

  pub same_fields : fields_for y ≡ fields_for x
  same_fields = ap fields_made (same_making x.task)

  same_places : (header : Option Header) → places y header ≡ places x header
  same_places None = refl
  same_places (Some header) = ap (λ (n : ℕ). guards_place x (place.begun x.layout (run_held x) header x.epoch n x.snap (target_for x))) same_fields

  pub placing : places y (header_for y) ≡ places x (header_for x)
  placing = same_places (header_for y) ∙ ap (places x) same_header

  going_on : (after : After) → goes_on y after ≡ goes_on x after
  going_on afters.Looks = refl
  going_on afters.Places = placing
  going_on afters.Snaps = refl

  running_on : (after : After) → runs_on y after ≡ runs_on x after
  running_on after = ap (λ (stage : Stage). cond x.layout.checkpoints (Recalls (recall.begun x.layout) after) stage) (going_on after)

  asking : (after : After) → after_request y after ≡ after_request x after
  asking afters.Looks = ap (λ (asked : ℕ). Flips (flip.begun x.layout x.epoch asked (has_seen_flip x))) same_asked
  asking afters.Places = ap (λ (asked : ℕ). Flips (flip.begun x.layout x.epoch asked (has_seen_flip x))) same_asked
  asking afters.Snaps = refl

  going_back : (back : Back) → goes_back y back ≡ goes_back x back
  going_back ToPlace = placing
  going_back _ = refl

  -- ---- what it becomes

  abbrev At : Stage → Held
  At stage = counted count (at_stage x stage)

  pub passing : (after : After) (passage : Passage) (result : Passed) → passed_by y after passage result ≡ counted count (passed_by x after passage result)
  passing after Park (passed.NotYet word) = ap At (going_on after)
  passing after Request (passed.Went word) = ap At (asking after)
  passing after (Resume epoch) (passed.Went word) = ap At (running_on after)
  passing after _ (passed.Went _) = refl
  passing after _ _ = refl

  pub gating : (g : gate.Passing) (after : After) (t : Turn Passed) → turned_gate y g after t ≡ counted count (turned_gate x g after t)
  gating g after More = refl
  gating g after (Finished result) = passing after g.passage result

  pub flipping : (f : flip.Flipping) (t : Turn Flipped) → turned_flip y f t ≡ counted count (turned_flip x f t)
  flipping f More = refl
  flipping f (Finished (flipped.Went asked)) = refl
  flipping f (Finished (flipped.NotYet word)) = refl

  pub flip_count : (t : Turn Flipped) → count_after count (told_flip t) ≡ count
  flip_count More = refl
  flip_count (Finished (flipped.Went asked)) = refl
  flip_count (Finished (flipped.NotYet word)) = refl

  pub scanning : (s : scan.Scanning) (back : Back) (t : Turn Scanned) → turned_scan y s back t ≡ counted count (turned_scan x s back t)
  scanning s back More = refl
  scanning s back (Finished (scanned.Ask old)) = refl
  scanning s back (Finished (scanned.Ended at_front)) = refl

  pub copying : (v : evac.Evacuation) (s : scan.Scanning) (back : Back) (t : Turn To) → turned_copy y v s back t ≡ counted count (turned_copy x v s back t)
  copying v s back More = refl
  copying v s back (Finished to) = refl

  pub opening : (o : open_page.Opening) (s : scan.Scanning) (back : Back) (t : Turn Opened) → turned_opening y o s back t ≡ counted count (turned_opening x o s back t)
  opening o s back More = refl
  opening o s back (Finished opened) = ap At (going_back back)

  -- an end is no instruction more
  end_count : (task : Option Task) (end : End) → count_after count (told_end task end) ≡ count
  end_count None end = refl
  end_count (Some task) end = refl

  -- an effect is one
  effect_count : (task : Option Task) (instr : Instr) → task ≡ Some (Calls instr) → count_after count (told_effect task) ≡ count + 1
  effect_count task instr is = ap (λ (t : Option Task). count_after count (told_effect t)) is

  pub accessing : (a : Access) (instr : Instr) → x.task ≡ Some (Calls instr) → (t : Turn Accessed) → turned_access y a t ≡ counted (count_after count (told_access x.task t)) (turned_access x a t)
  accessing a instr is More = refl
  accessing a instr is (Finished (Faults page)) = refl
  accessing a instr is (Finished Awaits) = refl
  accessing a instr is (Finished (Brings into word)) = ap (λ (n : ℕ). counted n (loads x into word)) (sym (effect_count x.task instr is))
  accessing a instr is (Finished Stored) = ap (λ (n : ℕ). counted n (went_on x)) (sym (effect_count x.task instr is))
  accessing a instr is (Finished (Fails why)) = ap (λ (n : ℕ). counted n (ended x why)) (sym (end_count x.task why))

  short_of : (s : Shortage) (full : Bool) → cond full (ended y (end_by_shortage s)) (counted count (at_stage x (asks_flip x)))
      ≡ counted (count_after count (cond full (told_end x.task (end_by_shortage s)) Silent)) (cond full (ended x (end_by_shortage s)) (at_stage x (asks_flip x)))
  short_of s true = ap (λ (n : ℕ). counted n (ended x (end_by_shortage s))) (sym (end_count x.task (end_by_shortage s)))
  short_of s false = refl

  filling : (s : Shortage) (traced : Bool) → full_by y s traced ≡ counted (count_after count (told_full x s traced)) (full_by x s traced)
  filling s false = refl
  filling s true = short_of s (is_full x s)

  -- ---- checkpoints

  pub guarding : (g : guard.Guarding) (write : Write) (t : Turn MayWrite) → turned_guard y g write t ≡ counted count (turned_guard x g write t)
  guarding g write More = refl
  guarding g write (Finished result) = refl

  checkpointing : (goal : Goal) → checkpoints y goal ≡ checkpoints x goal
  checkpointing ForFlip = refl
  checkpointing _ = refl

  rounding_by : (goal : Goal) (result : SaveRoundEnd) → rounded_by y goal result ≡ rounded_by x goal result
  rounding_by goal (save_round_end.NoneRuns number) = refl
  rounding_by goal _ = checkpointing goal

  rounding : (goal : Goal) (result : SaveRoundEnd) → rounded y goal result ≡ rounded x goal result
  rounding ForFlip result = rounding_by ForFlip result
  rounding ForSnap result = rounding_by ForSnap result
  rounding ForScanner result = refl

  pub saving_round : (r : save_round.SavingRound) (goal : Goal) (t : Turn SaveRoundEnd) → turned_save_round y r goal t ≡ counted count (turned_save_round x r goal t)
  saving_round r goal More = refl
  saving_round r goal (Finished result) = ap At (rounding goal result)

  pub snapping : (s : snap.Snapping) (instr : Instr) → x.task ≡ Some (Calls instr) → (t : Turn Snapped) → turned_snap y s t ≡ counted (count_after count (told_snap x.task t)) (turned_snap x s t)
  snapping s instr is More = refl
  snapping s instr is (Finished (snapped.Begun seen)) = ap (λ (n : ℕ). counted n (begins_checkpoint x seen)) (sym (effect_count x.task instr is))
  snapping s instr is (Finished (snapped.NotYet word)) = refl

  pub placed : (p : place.Placing) (making : IsMaking x.account x.registers x.task) (t : Turn Allocated)
      → turned_place y p t ≡ counted (count_after count (told_place x t)) (turned_place x p t)
  placed p making More = refl
  placed p making (Finished (Full s)) = filling s s.traced
  placed p making (Finished (Placed at)) =
      ap (with_record y p.run at) (same_making x.task ∙ made_is x making)
      ∙ (ap (λ (n : ℕ). counted n (with_record x p.run at (Some (made x making)))) (sym (effect_count x.task making.executes.instr making.executes.task_is))
      ∙ ap (λ (m : Option Making). counted (count_after count (told_effect x.task)) (with_record x p.run at m)) (sym (made_is x making)))

-- a worker that has read of checkpoints goes on with that
pub recalling : (count : ℕ) (x : Held) (r : recall.Recalling) (after : After) (t : Turn Recalled) → turned_recall (counted count x) r after t ≡ counted count (turned_recall x r after t)
recalling count x r after More = refl
recalling count x r after (Finished result) = ap (λ (stage : Stage). counted count (at_stage (recalled x result) stage)) (going_on count (recalled x result) after)

tracing : (count : ℕ) (x : Held) (back : Back) → traced_by (counted count x) back ≡ counted count (traced_by x back)
tracing count x ToPlace = ap (λ (stage : Stage). counted count (at_stage x stage)) (placing count x)
tracing count x _ = refl

-- after a round it goes on in the round's epoch
pub serving : (count : ℕ) (x : Held) (d : duty.Round) (back : Back) (t : Turn RoundEnd) → turned_round (counted count x) d back t ≡ counted count (turned_round x d back t)
serving count x d back (Finished Marked) = ap (λ (stage : Stage). counted count (at_stage (of_round x d) stage)) (going_back count (of_round x d) back)
serving count x d back (Finished Traced) = tracing count (of_round x d) back
serving count x d back (Finished (NothingNow word)) = ap (λ (stage : Stage). counted count (at_stage (of_round x d) stage)) (going_back count (of_round x d) back)
serving count x d back _ = refl
