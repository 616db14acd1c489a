-- A worker that didn't flip before a step has read nothing for a flip after it.
use Rattle.std.proofs.Common.{◌≡◌, ℕ, Bool, true, false, cond, nat_lt, Option, Some, None, refl}
use Rattle.std.specs.Prelude.{⊤}
use Rattle.atom_store.specs.declared.reply.Reply.{Reply}
use Rattle.atom_store.specs.declared.turn.Turn.{Turn}
use Rattle.atom_store.specs.declared.turn.Turn.TheVariants.{More, Finished}
use Rattle.alloc_end.specs.declared.allocated.Allocated.{Allocated}
use Rattle.alloc_end.specs.declared.allocated.Allocated.TheVariants.{Placed, Full}
use Rattle.alloc_end.specs.declared.run.Run.{Run}
use Rattle.alloc_end.specs.declared.shortage.Shortage.{Shortage}
use Rattle.alloc_end.specs.Place as place
use Rattle.fault_duty.specs.declared.round_end.RoundEnd.{RoundEnd}
use Rattle.fault_duty.specs.declared.round_end.RoundEnd.TheVariants.{Marked, Traced, NothingNow}
use Rattle.fault_duty.specs.Duty as duty
use Rattle.gate_core.specs.declared.flip_stage.FlipStage.TheVariants as flip_stage
use Rattle.gate_core.specs.declared.passage.Passage.{Passage}
use Rattle.gate_core.specs.declared.passage.Passage.TheVariants.{Look, Attach, Park, Request, Resume, Forwarded, Leave, Clear}
use Rattle.gate_core.specs.declared.passed.Passed.{Passed}
use Rattle.gate_core.specs.declared.passed.Passed.TheVariants as passed
use Rattle.gate_core.specs.Gate as gate
use Rattle.page_saves.specs.declared.save_round_end.SaveRoundEnd.{SaveRoundEnd}
use Rattle.page_saves.specs.declared.save_round_end.SaveRoundEnd.TheVariants as save_round_end
use Rattle.page_saves.specs.SaveRound as save_round
use Rattle.gc_worker.specs.declared.stage.after.After.{After}
use Rattle.gc_worker.specs.declared.stage.after.After.TheVariants as afters
use Rattle.gc_worker.specs.declared.stage.back.Back.{Back}
use Rattle.gc_worker.specs.declared.stage.goal.Goal.{Goal}
use Rattle.gc_worker.specs.declared.stage.goal.Goal.TheVariants.{ForFlip, ForSnap, ForScanner}
use Rattle.gc_worker.specs.declared.stage.Stage.{Stage}
use Rattle.gc_worker.specs.declared.stage.Stage.TheVariants.{Passes, Flips, Places, Serves, Checkpoints, Gone}
use Rattle.gc_worker.specs.Steps.Stepped.{IsFlipping}
use Rattle.gc_worker.specs.Steps.Turned.{after_request, asks_flip, checkpoints, end_by_shortage, ended, epoch_said, first_pointer, forwards_from, full_by, goes_back, goes_on, guards_place, in_epoch, is_full, of_round, passed_by, passes, rounded, rounded_by, runs_on, served_by, turned_at, turned_gate, turned_place, turned_round, turned_save_round, with_record}
use Rattle.gc_worker.specs.Workers.Held.{Held, at_stage, making_for}
use Rattle.gc_worker.specs.Plain.Seen.{Making}
use Rattle.gc_worker.proofs.Between.NextStages.{AsksNothing, asks_nothing, forwarding, going_back, going_on, placing_on, running_on, tracing}
use Rattle.gc_worker.proofs.MachineEnds.Each.{either_so}

-- of a flip nothing is read yet
abbrev pub IsUnread : Stage → Type 0
IsUnread (Flips f) = f.stage ≡ flip_stage.LoadsGate
IsUnread stage = ⊤

unread_so : (stage : Stage) → AsksNothing stage → IsUnread stage
unread_so (Flips f) nothing = absurd nothing
unread_so stage nothing = tt

module _ (x : Held) where
  -- ---- at the gate

  -- a flip begins
  asking : (after : After) → IsUnread (after_request x after)
  asking afters.Looks = refl
  asking afters.Places = refl
  asking afters.Snaps = tt

  passing_by : (after : After) (passage : Passage) (result : Passed) → IsUnread x.stage → IsUnread (passed_by x after passage result).stage
  passing_by after Attach (passed.Went word) own = let y = in_epoch x (epoch_said x.epoch word) in unread_so (runs_on y afters.Looks) (running_on y afters.Looks)
  passing_by after Park (passed.NotYet word) own = unread_so (goes_on x after) (going_on x after)
  passing_by after Request (passed.Went word) own = asking after
  passing_by after (Resume epoch) (passed.Went word) own = unread_so (runs_on x after) (running_on x after)
  passing_by after (Resume epoch) (passed.NotYet word) own =
      either_so IsUnread (nat_lt x.epoch (epoch_said x.epoch word)) (forwards_from x after 0) (passes x (Resume x.epoch) after)
      (unread_so (forwards_from x after 0) (forwarding x after (first_pointer x.registers 8 0))) tt
  passing_by after Forwarded (passed.NotYet word) own = own
  passing_by after Leave (passed.NotYet word) own = own
  passing_by after Look result own = own
  passing_by after Clear (passed.NotYet word) own = own
  passing_by after _ _ own = tt

  passing : (g : gate.Passing) (after : After) (turn : Turn Passed) → IsUnread x.stage → IsUnread (turned_gate x g after turn).stage
  passing g after More own = tt
  passing g after (Finished result) own = passing_by after g.passage result own

  -- ---- an allocation

  shortage : (s : Shortage) (traced : Bool) → IsUnread (full_by x s traced).stage
  shortage s false = tt
  shortage s true = by_test (is_full x s)
    where
      by_test : (b : Bool) → IsUnread (cond b (ended x (end_by_shortage s)) (at_stage x (asks_flip x))).stage
      by_test true = tt
      by_test false = either_so IsUnread x.layout.checkpoints (checkpoints x ForFlip) (passes x Request afters.Places) tt tt

  placed : (run : Run) (at : ℕ) (made : Option Making) → IsUnread x.stage → IsUnread (with_record x run at made).stage
  placed run at (Some m) own = tt
  placed run at None own = own

  allocating : (p : place.Placing) (turn : Turn Allocated) → IsUnread x.stage → IsUnread (turned_place x p turn).stage
  allocating p More own = unread_so (guards_place x p) (placing_on x p)
  allocating p (Finished (Placed at)) own = placed p.run at (making_for x x.task) own
  allocating p (Finished (Full s)) own = shortage s s.traced

  -- ---- rounds

  back_unread : (y : Held) (back : Back) → IsUnread (goes_back y back)
  back_unread y back = unread_so (goes_back y back) (going_back y back)

  serving_by : (d : duty.Round) (back : Back) (result : RoundEnd) → IsUnread (served_by x d back result).stage
  serving_by d back Marked = back_unread (of_round x d) back
  serving_by d back Traced = unread_so (served_by x d back Traced).stage (tracing (of_round x d) back)
  serving_by d back (NothingNow word) = back_unread (of_round x d) back
  serving_by d back _ = tt

  serving : (d : duty.Round) (back : Back) (turn : Turn RoundEnd) → IsUnread (turned_round x d back turn).stage
  serving d back More = tt
  serving d back (Finished result) = serving_by d back result

  -- ---- checkpoints

  -- a round for a checkpoint is no flip
  rounding : (goal : Goal) → IsUnread (checkpoints x goal)
  rounding ForFlip = tt
  rounding _ = tt

  rounded_to : (goal : Goal) (result : SaveRoundEnd) → IsUnread (rounded_by x goal result)
  rounded_to goal (save_round_end.NoneRuns number) = tt
  rounded_to goal _ = rounding goal

  round_ends : (goal : Goal) (result : SaveRoundEnd) → IsUnread (rounded x goal result)
  round_ends ForFlip result = rounded_to ForFlip result
  round_ends ForSnap result = rounded_to ForSnap result
  round_ends ForScanner result = tt

  saving : (r : save_round.SavingRound) (goal : Goal) (turn : Turn SaveRoundEnd) → IsUnread (turned_save_round x r goal turn).stage
  saving r goal More = tt
  saving r goal (Finished result) = round_ends goal result

module _ (x : Held) (own : IsUnread x.stage) where
  -- ---- each stage but a flip's

  by_stage : (reply : Reply) (stage : Stage) → x.stage ≡ stage → ¬ (IsFlipping stage) → IsUnread (turned_at x stage reply).stage
  by_stage reply (Passes g after) at other = passing x (gate.taken g reply) after (gate.told (gate.taken g reply)) own
  by_stage reply (Flips f) at other = absurd (other tt)
  by_stage reply (Places p) at other = allocating x (place.taken p reply) (place.told (place.taken p reply)) own
  by_stage reply (Serves d back) at other = serving x (duty.taken d reply) back (duty.told (duty.taken d reply))
  by_stage reply (Checkpoints r goal) at other = saving x (save_round.taken r reply) goal (save_round.told (save_round.taken r reply))
  by_stage reply Gone at other = own
  by_stage reply stage at other = unread_so (turned_at x stage reply).stage (asks_nothing x reply stage tt at)

-- who doesn't flip has read nothing of one
unread : (stage : Stage) → ¬ (IsFlipping stage) → IsUnread stage
unread (Flips f) other = absurd (other tt)
unread stage other = tt

pub new_flips_are_unread : (x : Held) (reply : Reply) → ¬ (IsFlipping x.stage) → IsUnread (turned_at x x.stage reply).stage
new_flips_are_unread x reply other = by_stage x (unread x.stage other) reply x.stage refl other
