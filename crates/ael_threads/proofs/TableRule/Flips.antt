-- A flip is for the pages that the flipper's task asks for, whatever its count of instructions is; and who answers stays in its epoch.
use Rattle.std.proofs.Common.{◌≡◌, ℕ, Bool, true, false, cond, List, Option, Some, None, Result, Ok, Err, refl, sym, ◌∙◌, subst}
use Rattle.std.specs.Prelude.{⊤}
use Rattle.plain_state.specs.declared.end.End.{End}
use Rattle.plain_heap.specs.declared.action.Action.{Action}
use Rattle.plain_heap.specs.declared.action.Action.TheVariants.{Sets, Jumps, Links, Prints, Snaps}
use Rattle.plain_heap.specs.Action.{action}
use Rattle.atom_store.specs.declared.reply.Reply.{Reply}
use Rattle.atom_store.specs.declared.reply.Reply.TheVariants as replies
use Rattle.atom_store.specs.declared.turn.Turn.{Turn}
use Rattle.atom_store.specs.declared.turn.Turn.TheVariants.{More, Finished}
use Rattle.space_map.specs.declared.gate_word.GateWord.{GateWord}
use Rattle.space_map.specs.GateWord.{decode_gate}
use Rattle.alloc_end.specs.declared.allocated.Allocated.{Allocated}
use Rattle.alloc_end.specs.declared.allocated.Allocated.TheVariants.{Placed, Full}
use Rattle.alloc_end.specs.declared.run.Run.{Run}
use Rattle.alloc_end.specs.declared.shortage.Shortage.{Shortage}
use Rattle.alloc_end.specs.Place as place
use Rattle.fault_duty.specs.Duty as duty
use Rattle.gate_core.specs.declared.flipped.Flipped.{Flipped}
use Rattle.gate_core.specs.declared.flipped.Flipped.TheVariants as flipped
use Rattle.gate_core.specs.declared.passage.Passage.TheVariants.{Park}
use Rattle.gate_core.specs.Flip as flip
use Rattle.gate_core.specs.declared.snap.snapped.Snapped.{Snapped}
use Rattle.gate_core.specs.declared.snap.snapped.Snapped.TheVariants as snapped
use Rattle.gate_core.specs.Snap as snap
use Rattle.record_access.specs.declared.access.Access.{Access}
use Rattle.record_access.specs.declared.accessed.Accessed.{Accessed}
use Rattle.record_access.specs.declared.accessed.Accessed.TheVariants.{Faults, Awaits, Brings, Stored, Fails}
use Rattle.gc_worker.specs.declared.stage.after.After.TheVariants as afters
use Rattle.gc_worker.specs.declared.stage.Stage.{Stage}
use Rattle.gc_worker.specs.declared.stage.Stage.TheVariants.{Looks, Flips, Accesses, Places, Serves, BeginsCheckpoint}
use Rattle.gc_worker.specs.declared.task.Task.{Task}
use Rattle.gc_worker.specs.declared.task.Task.TheVariants.{Calls, Stops}
use Rattle.record_access.specs.Access as access
use Rattle.gc_worker.specs.Workers.Begun.{IsPastLook}
use Rattle.gc_worker.specs.Workers.Counted.{counted}
use Rattle.gc_worker.specs.Workers.Fits.{Fits, FitsTask}
use Rattle.gc_worker.specs.Workers.Held.{Held, pages_needed, at_stage, making_for, may_snap}
use Rattle.gc_worker.specs.Laws.Step.{FlipsWhereTold}
use Rattle.gc_worker.specs.declared.steps.allocating.Making.{Making}
use Rattle.gc_worker.specs.Plain.Seen.{seen}
use Rattle.gc_worker.specs.declared.calls.did.Did.{Did}
use Rattle.gc_worker.specs.declared.calls.did.Did.TheVariants.{Done}
use Rattle.gc_worker.specs.Steps.Turned.{Told, Silent, Answers, Marks, acted, acts, begins, begins_checkpoint, end_by_shortage, ended, full_by, is_full, looked_by, passes, started, told, told_access, told_acted, told_action, told_at, told_effect, told_end, told_flip, told_full, told_gate, told_look, told_place, told_snap, told_start, turned, turned_access, turned_at, turned_flip, turned_look, turned_place, turned_snap, went_on, with_record}
use Rattle.gc_worker.proofs.Between.Pages.Claims.{flips_at}
use Rattle.gc_worker.proofs.Plain.Quiet.{IsQuiet, rounds_are_quiet}
use Rattle.gc_worker.proofs.Workers.ApartFromCount.{counted_fit}

-- ---- a flip

module _ (n mutators m count : ℕ) (x : Held) (reply : Reply) (fits : Fits n mutators m x) (words later : List ℕ) where
  -- with any count it asks for as many
  same_asked : (asked : ℕ) → told x reply ≡ Marks asked → pages_needed (counted count x) ≡ pages_needed x
  same_asked asked e =
      let at = flips_at x reply asked x.stage e in
      let own = (subst (FitsTask x) at.1 fits.task).1 in
      let its = (subst (FitsTask (counted count x)) at.1 ((counted_fit n mutators m count x).1 fits).task).1 in
      sym its ∙ own

  pub flips_by : (t : Told) → told x reply ≡ t → FlipsWhereTold n words later (counted count x) t → FlipsWhereTold n words later x t
  flips_by (Marks asked) e h = record { asked_is = h.asked_is ∙ same_asked asked e; epoch = h.epoch; next = h.next; untraced = h.untraced }
  flips_by _ e h = h

-- ---- an answer

-- who answers stays in its epoch, and if it has begun the task before, keeps the one in which it did
abbrev Stays : (past : Type 0) (was now : Held) → Told → Type 0
Stays past was now (Answers task outcome) = (now.epoch ≡ was.epoch) × (past → now.begun ≡ was.begun)
Stays past was now _ = ⊤

module _ (x : Held) where
  effect_stays : (y : Held) → y.epoch ≡ x.epoch → y.begun ≡ x.begun → (task : Option Task) → Stays ⊤ x y (told_effect task)
  effect_stays y same began (Some task) = (same, λ past. began)
  effect_stays y same began None = tt

  end_stays : (why : End) (task : Option Task) → Stays ⊤ x (ended x why) (told_end task why)
  end_stays why (Some task) = (refl, λ past. refl)
  end_stays why None = tt

  -- ---- a look

  snap_stays : (task : Task) (b : Bool) (y : Held) → Stays ⊥ x (cond b y (went_on (begins x))) (cond b Silent (Answers task Done))
  snap_stays task true y = tt
  snap_stays task false y = (refl, λ past. absurd past)

  by_action : (task : Task) (act : Action) → Stays ⊥ x (acts (begins x) act) (told_action x task act)
  by_action task (Sets d v) = (refl, λ past. absurd past)
  by_action task (Jumps target) = (refl, λ past. absurd past)
  by_action task (Links d target) = (refl, λ past. absurd past)
  by_action task (Prints n) = (refl, λ past. absurd past)
  by_action task Snaps = snap_stays task (may_snap x) _
  by_action task _ = tt

  by_result : (task : Task) (r : Result Action End) → Stays ⊥ x (acted (begins x) r) (told_acted x task r)
  by_result task (Ok act) = by_action task act
  by_result task (Err why) = (refl, λ past. absurd past)

  start_stays : (task : Option Task) → Stays ⊥ x (started x task) (told_start x task)
  start_stays None = tt
  start_stays (Some (Calls instr)) = by_result (Calls instr) (action (seen x.account x.registers) instr)
  start_stays (Some (Stops why)) = (refl, λ past. absurd past)

  request_stays : (b : Bool) → Stays ⊥ x (cond b (at_stage x (passes x Park afters.Looks)) (started x x.task)) (cond b Silent (told_start x x.task))
  request_stays true = tt
  request_stays false = start_stays x.task

  gate_stays : (o : Option GateWord) → Stays ⊥ x (looked_by x o) (told_gate x o)
  gate_stays (Some read) = request_stays read.request
  gate_stays None = tt

  look_stays : (reply : Reply) → Stays ⊥ x (turned_look x reply) (told_look x reply)
  look_stays (replies.Value word) = gate_stays (decode_gate word)
  look_stays _ = tt

  -- ---- an access, an allocation

  flip_stays : (f : flip.Flipping) (turn : Turn Flipped) → Stays ⊤ x (turned_flip x f turn) (told_flip turn)
  flip_stays f More = tt
  flip_stays f (Finished (flipped.Went asked)) = tt
  flip_stays f (Finished (flipped.NotYet word)) = tt

  access_stays : (a : Access) (turn : Turn Accessed) → Stays ⊤ x (turned_access x a turn) (told_access x.task turn)
  access_stays a More = tt
  access_stays a (Finished (Faults page)) = tt
  access_stays a (Finished Awaits) = tt
  access_stays a (Finished (Brings into word)) = effect_stays (turned_access x a (Finished (Brings into word))) refl refl x.task
  access_stays a (Finished Stored) = effect_stays (turned_access x a (Finished Stored)) refl refl x.task
  access_stays a (Finished (Fails why)) = end_stays why x.task

  full_stays : (b : Bool) (why : End) (y : Held) → Stays ⊤ x (cond b (ended x why) y) (cond b (told_end x.task why) Silent)
  full_stays true why y = end_stays why x.task
  full_stays false why y = tt

  shortage_stays : (s : Shortage) (traced : Bool) → Stays ⊤ x (full_by x s traced) (told_full x s traced)
  shortage_stays s false = tt
  shortage_stays s true = full_stays (is_full x s) (end_by_shortage s) _

  placed_stays : (run : Run) (at : ℕ) (made : Option Making) → Stays ⊤ x (with_record x run at made) (told_effect x.task)
  placed_stays run at (Some m) = effect_stays (with_record x run at (Some m)) refl refl x.task
  placed_stays run at None = effect_stays x refl refl x.task

  place_stays : (p : place.Placing) (turn : Turn Allocated) → Stays ⊤ x (turned_place x p turn) (told_place x turn)
  place_stays p More = tt
  place_stays p (Finished (Placed at)) = placed_stays p.run at (making_for x x.task)
  place_stays p (Finished (Full s)) = shortage_stays s s.traced

  -- ---- a checkpoint that begins

  begun_stays : (s : snap.Snapping) (turn : Turn Snapped) → Stays ⊤ x (turned_snap x s turn) (told_snap x.task turn)
  begun_stays s More = tt
  begun_stays s (Finished (snapped.Begun seen)) = effect_stays (begins_checkpoint x seen) refl refl x.task
  begun_stays s (Finished (snapped.NotYet word)) = tt

  quiet_stays : (past : Type 0) (y : Held) (t : Told) → IsQuiet t → Stays past x y t
  quiet_stays past y (Answers task outcome) quiet = absurd quiet
  quiet_stays past y _ quiet = tt

  -- ---- each stage

  by_stage : (stage : Stage) (reply : Reply) → Stays (IsPastLook stage) x (turned_at x stage reply) (told_at x stage reply)
  by_stage Looks reply = look_stays reply
  by_stage (Flips f) reply = flip_stays (flip.taken f reply) (flip.told (flip.taken f reply))
  by_stage (Accesses a) reply = access_stays (access.taken a reply) (access.told a reply)
  by_stage (Places p) reply = place_stays (place.taken p reply) (place.told (place.taken p reply))
  by_stage (Serves d back) reply = quiet_stays (IsPastLook (Serves d back)) (turned_at x (Serves d back) reply) (told_at x (Serves d back) reply) (rounds_are_quiet (duty.told (duty.taken d reply)))
  by_stage (BeginsCheckpoint s) reply = begun_stays (snap.taken s reply) (snap.told (snap.taken s reply))
  by_stage _ reply = tt

  pub answers_in_epoch : (reply : Reply) (task : Task) (outcome : Did) → told x reply ≡ Answers task outcome → (turned x reply).epoch ≡ x.epoch
  answers_in_epoch reply task outcome e = (subst (Stays (IsPastLook x.stage) x (turned x reply)) e (by_stage x.stage reply)).0

  pub answers_as_begun : (reply : Reply) (task : Task) (outcome : Did) → told x reply ≡ Answers task outcome → IsPastLook x.stage → (turned x reply).begun ≡ x.begun
  answers_as_begun reply task outcome e = (subst (Stays (IsPastLook x.stage) x (turned x reply)) e (by_stage x.stage reply)).1
