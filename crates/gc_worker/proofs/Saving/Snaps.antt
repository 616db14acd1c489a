-- The beginning of a checkpoint: the gate is found with nobody running, and stands still; then SNAP is exchanged, by which the heap of
-- now becomes the frozen one, and the plain heap keeps what that shows.
use Rattle.std.proofs.Common.{◌≡◌, [], ℕ, ◌+◌, ◌^◌, ◌==◌, Bool, true, false, cond, nat_lt, Option, Some, None, Result, Ok, refl, sym, ap, subst, ◌∙◌}
use Rattle.std.specs.Prelude.{◌&&◌}
use Rattle.std.proofs.lemmas.Bool.{eqb-true, ltb-true}
use Rattle.mutator_asm.specs.declared.instr.Instr.{Instr}
use Rattle.mutator_asm.specs.declared.instr.Instr.TheVariants.{Snap}
use Rattle.plain_state.specs.declared.end.End.{End}
use Rattle.plain_state.specs.State.{Heap, Mutator, Plain}
use Rattle.plain_state.specs.Writing.{took}
use Rattle.plain_heap.specs.Call as plain
use Rattle.plain_heap.specs.Call.{call}
use Rattle.plain_heap.specs.Step.{settled}
use Rattle.plain_heap.specs.declared.action.Action.TheVariants.{Snaps}
use Rattle.atom_store.specs.declared.reply.Reply.TheVariants.{Value, Won, Lost}
use Rattle.atom_store.specs.declared.step.Step.{Step}
use Rattle.atom_store.specs.declared.step.Step.TheVariants.{Load, Exchange}
use Rattle.space_map.specs.declared.gate_word.GateWord.{GateWord}
use Rattle.space_map.specs.GateWord.{decode_gate}
use Rattle.space_map.specs.Table.{Gate, SnapNumber, place_of}
use Rattle.gate_core.specs.declared.snap.snap_stage.SnapStage.{SnapStage}
use Rattle.gate_core.specs.declared.snap.snap_stage.SnapStage.TheVariants.{LoadsGate, ExchangesSnap, Ended}
use Rattle.gate_core.specs.declared.snap.snapped.Snapped.TheVariants.{NotYet}
use Rattle.gate_core.specs.Snap.{Snapping, looked, told_at}
use Rattle.heap_state.specs.Configuration.{Configuration, table, team}
use Rattle.heap_state.specs.Functions.{put}
use Rattle.heap_state.specs.Memory.Entries.{Within, SnapIs}
use Rattle.heap_state.specs.Memory.Table.{table_of, word_in}
use Rattle.heap_state.specs.Saving.Frozen.{Frozen}
use Rattle.heap_state.specs.Saving.Kept.{ShowsSnapped}
use Rattle.heap_state.specs.Saving.Parts.{SavingStands}
use Rattle.heap_state.specs.Saving.Savers.{Saver}
use Rattle.heap_laws.specs.Saving.Snapping.{IsAboutToSnap, SnapIsKept, frozen_of, saver_after_snap, saver_still}
use Rattle.heap_laws.proofs.Saving.Requests.{gates_are_found_still}
use Rattle.heap_laws.proofs.Saving.Snapping.{snaps_are_kept}
use Rattle.gc_worker.specs.declared.calls.did.Did.TheVariants.{Done}
use Rattle.gc_worker.specs.declared.stage.Stage.TheVariants.{BeginsCheckpoint}
use Rattle.gc_worker.specs.declared.task.Task.{Task}
use Rattle.gc_worker.specs.declared.task.Task.TheVariants.{Calls}
use Rattle.gc_worker.specs.Plain.Answer.{after_answer, after_told}
use Rattle.gc_worker.specs.Plain.Seen.{seen}
use Rattle.gc_worker.specs.Steps.Turned.{Silent, told_effect, told_snap, turned_snap}
use Rattle.gc_worker.specs.Steps.Wanted.{wanted}
use Rattle.gc_worker.specs.Workers.Fits.{ExecutesAction}
use Rattle.gc_worker.specs.Workers.Held.{Held, at_stage}
use Rattle.gc_worker.specs.Workers.Saves.{saver_of}
use Rattle.gc_worker.proofs.Plain.AnswerSteps.{IsIts, own_mutator}
use Rattle.gc_worker.proofs.Plain.OnlySnap.{snap_takes, snaps_alone}
use Rattle.gc_worker.proofs.Saving.Frame.Read.{With, becomes_by, loads_row, own_stands, snap_now, stays_by, wants_so}
use Rattle.gc_worker.proofs.Saving.Frame.StepRows.{SavedBy, exchanges_so}
use Rattle.gc_worker.proofs.Saving.Frame.Step.{Before, SavesStep, prepared, saves}
use Rattle.gc_worker.proofs.Stages.Gate.Resuming.{end_none}
use Rattle.gc_worker.proofs.Stages.Gate.GateWords.{gate_now, gate_says}

second_by : (a b : Bool) → (a && b) ≡ true → b ≡ true
second_by true b both = both
second_by false b both = absurd (cc)

module _ (c : Configuration) (p : Plain) (z : Frozen) (saver : ℕ → Saver) (k : ℕ) (y : Held) where
  abbrev snapping : SnapStage → Snapping
  snapping stage = record { layout = y.layout; number = y.snap; stage = stage }

  abbrev at : SnapStage → Held
  at stage = at_stage y (BeginsCheckpoint (snapping stage))

  -- ---- the gate

  module _ (b : Before c p z saver k (at LoadsGate)) where
    abbrev gate : GateWord
    gate = (table c).gate

    abbrev next : SnapStage → Held
    next stage = turned_snap (at LoadsGate) (snapping stage) (told_at stage)

    finds : (stage : SnapStage) → looked (gate_now c) (decode_gate (gate_now c)) ≡ stage → With c p z saver k (at LoadsGate) b (saver_of (next stage))
        → told_snap y.task (told_at stage) ≡ Silent → SavedBy c p saver k (at LoadsGate) None (Value (gate_now c))
    finds stage reads stands silent =
        becomes_by c p z saver k (at LoadsGate) b (Value (gate_now c)) (saver_of (next stage)) (ap (λ (t : SnapStage). saver_of (next t)) reads) stands
        (ap (λ (t : SnapStage). told_snap y.task (told_at t)) reads ∙ silent)

    abbrev by_test : Bool → SnapStage
    by_test t = cond t (ExchangesSnap gate) (Ended (NotYet (gate_now c)))

    reads : (t : Bool) → (gate.running == 0) ≡ t → looked (gate_now c) (decode_gate (gate_now c)) ≡ by_test t
    reads t test = ap (looked (gate_now c)) (gate_says c p b.stands) ∙ ap by_test test

    still : gate.running ≡ 0 → With c p z saver k (at LoadsGate) b (saver_of (at (ExchangesSnap gate)))
    still none =
        subst (λ (w : Saver). With c p z saver k (at LoadsGate) b (saver_still w gate)) b.own
        (gates_are_found_still (table c) (saves c) z (team c).count saver k b.saving b.is.below (ap (λ (w : Saver). w.asks) b.own) none)

    goes : (t : Bool) → (gate.running == 0) ≡ t → SavedBy c p saver k (at LoadsGate) None (Value (gate_now c))
    goes true test = finds (ExchangesSnap gate) (reads true test) (still (eqb-true gate.running 0 test)) refl
    goes false test = finds (Ended (NotYet (gate_now c))) (reads false test) (own_stands c p z saver k (at LoadsGate) b) refl

    loads_gate : (q : Step) → wanted (at LoadsGate) ≡ Some q → SavesStep c p saver k (at LoadsGate) q
    loads_gate =
        wants_so c p z saver k (at LoadsGate) b (Load (place_of c.pages Gate)) (ap (λ n. Some (Load (place_of n Gate))) b.is.fits.pages)
        (loads_row c p z saver k (at LoadsGate) b (Within Gate) tt (goes (gate.running == 0) refl))

  -- ---- SNAP

  module _ (gate : GateWord) (b : Before c p z saver k (at (ExchangesSnap gate))) where
    abbrev x : Held
    x = at (ExchangesSnap gate)

    own : (q : Mutator) × IsIts c p b.stands k x q
    own = own_mutator c p b.stands k x b.is (end_none x.account.end b.is.fits.end) refl

    calls : (instr : Instr) → instr ≡ Snap → call k p.heap own.0 instr ≡ Ok (record { heap = took p.heap; mutator = plain.went_on own.0 })
    calls instr is_snap =
        subst (λ (i : Instr). call k p.heap own.0 i ≡ Ok (record { heap = took p.heap; mutator = plain.went_on own.0 })) (sym is_snap) (snap_takes k p.heap own.0)

    -- the plain heap then
    takes : (after_told [] p k (told_effect y.task)).heap ≡ took p.heap
    takes =
        let task : ExecutesAction x.account x.registers x.task Snaps = b.is.fits.task in
        ap (λ (t : Option Task). (after_told [] p k (told_effect t)).heap) task.task_is
        ∙ (ap (λ (o : Option Mutator). (after_answer p k (Calls task.instr) Done o).heap) own.1.is
        ∙ ap (λ (r : Result plain.After End). (settled p k own.0 r).heap) (calls task.instr (snaps_alone (seen x.account x.registers) task.instr task.acts)))

    module _ (same : word_in c.pages c.words SnapNumber ≡ y.snap) where
      number : (saves c).snap ≡ y.snap
      number = snap_now c ∙ same

      about : IsAboutToSnap (saves c) saver k
      about =
          let fits = ltb-true (y.snap + 1) (2 ^ 32) (second_by y.layout.checkpoints (nat_lt (y.snap + 1) (2 ^ 32)) b.is.fits.stage.may) in
          record { gate = gate; still = ap (λ (w : Saver). w.still) b.own; settled = ap (λ (w : Saver). w.settled) b.own; fits = rw number fits }

      kept : SnapIsKept (table c) (saves c) b.stands.ghost (team c).count saver k p.heap
      unfolding table_of
      kept =
          snaps_are_kept (table c) (saves c) z (team c) b.stands.ghost p saver k (prepared c p z saver k x b).laid_out b.stands.invariant b.stands.shown b.saving b.shows b.posts
          b.is.below about

      abbrev frozen : Frozen
      frozen = frozen_of (table c) b.stands.ghost

      one_more : ((saves c).snap + 1) ≡ (y.snap + 1)
      one_more = ap (λ (n : ℕ). n + 1) number

      stands : SavingStands (table c) (record (saves c) { snap = y.snap + 1 }) frozen (team c).count (put saver k (saver_after_snap (saver_of x)))
      stands =
          subst (λ (w : Saver). SavingStands (table c) (record (saves c) { snap = y.snap + 1 }) frozen (team c).count (put saver k (saver_after_snap w))) b.own
          (subst (λ (n : ℕ). SavingStands (table c) (record (saves c) { snap = n }) frozen (team c).count (put saver k (saver_after_snap (saver k)))) one_more kept.stands)

      shows : ShowsSnapped c.pages (record (saves c) { snap = y.snap + 1 }) frozen (after_told [] p k (told_effect y.task)).heap
      unfolding table_of
      shows =
          subst (λ (heap : Heap). ShowsSnapped c.pages (record (saves c) { snap = y.snap + 1 }) frozen heap) (sym takes)
          (subst (λ (n : ℕ). ShowsSnapped (table c).pages (record (saves c) { snap = n }) frozen (took p.heap)) one_more kept.shows)

      wins : SavedBy c p saver k x (Some (SnapIs (y.snap + 1))) Won
      wins = record { fits = tt; frozen = frozen; stands = stands; shows = shows }

    exchanges_snap : (q : Step) → wanted x ≡ Some q → SavesStep c p saver k x q
    exchanges_snap =
        wants_so c p z saver k x b (Exchange (place_of c.pages SnapNumber) y.snap (y.snap + 1)) (ap (λ n. Some (Exchange (place_of n SnapNumber) y.snap (y.snap + 1))) b.is.fits.pages)
        (exchanges_so c p z saver k x b (SnapIs (y.snap + 1)) y.snap tt wins (stays_by c p z saver k x b (Lost _) refl refl))

  -- ---- each stage

  by_stage : (stage : SnapStage) → Before c p z saver k (at stage) → (q : Step) → wanted (at stage) ≡ Some q → SavesStep c p saver k (at stage) q
  by_stage LoadsGate b = loads_gate b
  by_stage (ExchangesSnap gate) b = exchanges_snap gate b
  by_stage (Ended result) b = absurd b.is.fits.stage.going

  -- a step of who begins a checkpoint keeps what is kept of them
  pub begins_checkpoint : (s : Snapping) → Before c p z saver k (at_stage y (BeginsCheckpoint s)) → (q : Step) → wanted (at_stage y (BeginsCheckpoint s)) ≡ Some q
      → SavesStep c p saver k (at_stage y (BeginsCheckpoint s)) q
  begins_checkpoint s b =
      let same : s ≡ snapping s.stage = (λ i. record { layout = b.is.fits.stage.layout i; number = b.is.fits.stage.number i; stage = s.stage }) in
      subst (λ (w : Snapping). (q : Step) → wanted (at_stage y (BeginsCheckpoint w)) ≡ Some q → SavesStep c p saver k (at_stage y (BeginsCheckpoint w)) q) (sym same)
      (by_stage s.stage (subst (λ (w : Snapping). Before c p z saver k (at_stage y (BeginsCheckpoint w))) same b))
