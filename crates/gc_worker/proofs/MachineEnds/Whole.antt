-- That a machine which has come to its end makes way, stage by stage.
use Rattle.std.proofs.Common.{◌≡◌, ◌⊎◌, ℕ, inl, inr, refl, subst, ap, ◌∙◌}
use Rattle.atom_store.specs.declared.reply.Reply.{Reply}
use Rattle.atom_store.specs.declared.turn.Turn.{Turn}
use Rattle.atom_store.specs.declared.turn.Turn.TheVariants.{Finished}
use Rattle.alloc_end.specs.declared.allocated.Allocated.{Allocated}
use Rattle.alloc_end.specs.Place as place
use Rattle.fault_duty.specs.declared.round_end.RoundEnd.{RoundEnd}
use Rattle.fault_duty.specs.Duty as duty
use Rattle.forwarding.specs.declared.to.To.{To}
use Rattle.forwarding.specs.Taken as evac_taken
use Rattle.gate_core.specs.declared.flipped.Flipped.{Flipped}
use Rattle.gate_core.specs.declared.passed.Passed.{Passed}
use Rattle.gate_core.specs.Flip as flip
use Rattle.gate_core.specs.Gate as gate
use Rattle.gate_core.specs.declared.recall.recalled.Recalled.{Recalled}
use Rattle.gate_core.specs.declared.snap.snapped.Snapped.{Snapped}
use Rattle.gate_core.specs.Recall as recall
use Rattle.gate_core.specs.Snap as snap
use Rattle.page_saves.specs.declared.may_write.MayWrite.{MayWrite}
use Rattle.page_saves.specs.Guard as guard
use Rattle.page_scan.specs.declared.scanned.Scanned.{Scanned}
use Rattle.page_scan.specs.Taken as scan_taken
use Rattle.page_slots.specs.declared.opened.Opened.{Opened}
use Rattle.page_slots.specs.Open as open_page
use Rattle.record_access.specs.declared.accessed.Accessed.{Accessed}
use Rattle.record_access.specs.Access as access
use Rattle.gc_worker.specs.declared.stage.back.Back.{Back}
use Rattle.gc_worker.specs.declared.stage.back.Back.TheVariants.{ToAccess, ToTarget, ToPlace, ToSnap, ToScanner}
use Rattle.gc_worker.specs.declared.stage.Stage.{Stage}
use Rattle.gc_worker.specs.declared.stage.Stage.TheVariants.{Looks, Passes, Flips, Forwards, Accesses, Places, Serves, Scans, Evacuates, Opens, Recalls, Guards, Checkpoints, BeginsCheckpoint, Gone}
use Rattle.gc_worker.specs.Laws.MachineEnds.{ComesToEnd, EndedMachinesMakeWay, IsRoundOver, IsSameMachine, IsWaiting}
use Rattle.gc_worker.specs.Steps.Turned.{recalled, turned_access, turned_at, turned_copy, turned_flip, turned_gate, turned_guard, turned_opening, turned_place, turned_recall, turned_register, turned_round, turned_scan, turned_snap, with_evac}
use Rattle.gc_worker.specs.Workers.Fits.{Fits, IsOwnPassage}
use Rattle.gc_worker.specs.Workers.Held.{Held, at_stage}
use Rattle.gc_worker.proofs.MachineEnds.Each.{RoundsAgain, accesses_end, allocations_end, flips_end, guards_end, openings_end, passages_end, recalls_end, registers_end, rounds_end, scans_end, snaps_end}

module _ (n mutators k : ℕ) (x : Held) (r : Reply) where
  abbrev Ends : Stage → Type 0
  Ends stage = IsRoundOver stage r ⊎ IsWaiting stage r

  abbrev Same : (stage : Stage) → Held → Type 0
  Same stage y = IsSameMachine stage y.stage

  round_again : (d : duty.Round) (back : Back) (result : RoundEnd) → duty.told (duty.taken d r) ≡ Finished result → RoundsAgain back → Ends (Serves d back)
  round_again d ToScanner result ends again = inr (result, ends)
  round_again d (ToTarget a) result ends again = inl (result, ends)
  round_again d ToSnap result ends again = inl (result, ends)
  round_again d (ToAccess a) result ends again = absurd again
  round_again d ToPlace result ends again = absurd again

  by_stage : (stage : Stage) → Fits n mutators k (at_stage x stage) → ComesToEnd stage r → Same stage (turned_at (at_stage x stage) stage r) → Ends stage
  by_stage (Passes g after) fits (result, ends) same =
      let y = at_stage x (Passes g after) in
      let not_yet = passages_end y g after after r g.passage result refl (λ e. subst (IsOwnPassage y after) e fits.stage.passage) fits.stage.going ends
      (subst (λ (turn : Turn Passed). Same (Passes g after) (turned_gate y (gate.taken g r) after turn)) ends same) in
      inr (not_yet.0, (not_yet.1.0, ends ∙ ap (λ (z : Passed). Finished z) not_yet.1.1))
  by_stage (Flips f) fits (result, ends) same =
      let y = at_stage x (Flips f) in
      let not_yet = flips_end y (flip.taken f r) f result (subst (λ (turn : Turn Flipped). Same (Flips f) (turned_flip y (flip.taken f r) turn)) ends same) in
      inr (not_yet.0, ends ∙ ap (λ (z : Flipped). Finished z) not_yet.1)
  by_stage (Forwards w) fits (to, ends) same =
      let y = at_stage x (Forwards w) in
      let next = with_evac w (evac_taken.taken w.evac r) in
      absurd (registers_end y w next to refl (subst (λ (turn : Turn To). Same (Forwards w) (turned_register y next turn)) ends same))
  by_stage (Accesses a) fits (result, ends) same =
      let y = at_stage x (Accesses a) in
      absurd (accesses_end y a (access.taken a r) result (subst (λ (turn : Turn Accessed). Same (Accesses a) (turned_access y (access.taken a r) turn)) ends same))
  by_stage (Places p) fits (result, ends) same =
      let y = at_stage x (Places p) in
      absurd (allocations_end y p (place.taken p r) result fits.task.0 (subst (λ (turn : Turn Allocated). Same (Places p) (turned_place y (place.taken p r) turn)) ends same))
  by_stage (Serves d back) fits (result, ends) same =
      let y = at_stage x (Serves d back) in
      round_again d back result ends
      (rounds_end y d (duty.taken d r) back result (subst (λ (turn : Turn RoundEnd). Same (Serves d back) (turned_round y (duty.taken d r) back turn)) ends same))
  by_stage (Scans s back) fits (result, ends) same =
      let y = at_stage x (Scans s back) in
      absurd (scans_end y s (scan_taken.taken s r) back result (subst (λ (turn : Turn Scanned). Same (Scans s back) (turned_scan y (scan_taken.taken s r) back turn)) ends same))
  by_stage (Evacuates v s back) fits (to, ends) same =
      let y = at_stage x (Evacuates v s back) in
      absurd (subst (λ (turn : Turn To). Same (Evacuates v s back) (turned_copy y (evac_taken.taken v r) s back turn)) ends same)
  by_stage (Opens o s back) fits (result, ends) same =
      let y = at_stage x (Opens o s back) in
      absurd (openings_end y o s back (subst (λ (turn : Turn Opened). Same (Opens o s back) (turned_opening y (open_page.taken o r) s back turn)) ends same))
  by_stage (Recalls z after) fits (result, ends) same =
      let y = at_stage x (Recalls z after) in
      absurd (recalls_end z after (recalled y result) after (subst (λ (turn : Turn Recalled). Same (Recalls z after) (turned_recall y (recall.taken z r) after turn)) ends same))
  by_stage (Guards g write) fits (result, ends) same =
      let y = at_stage x (Guards g write) in
      absurd (guards_end g write write (subst (λ (turn : Turn MayWrite). Same (Guards g write) (turned_guard y (guard.taken g r) write turn)) ends same))
  by_stage (Checkpoints d goal) fits ended same = inl ended
  by_stage (BeginsCheckpoint b) fits (result, ends) same =
      let y = at_stage x (BeginsCheckpoint b) in
      let not_yet = snaps_end y b result (subst (λ (turn : Turn Snapped). Same (BeginsCheckpoint b) (turned_snap y (snap.taken b r) turn)) ends same) in
      inr (not_yet.0, ends ∙ ap (λ (z : Snapped). Finished z) not_yet.1)
  by_stage Looks fits ended same = absurd ended
  by_stage Gone fits ended same = absurd ended

pub ended_machines_make_way : EndedMachinesMakeWay
ended_machines_make_way n mutators k x reply fits ended same = by_stage n mutators k x reply x.stage fits ended same
