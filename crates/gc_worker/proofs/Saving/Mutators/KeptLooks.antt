-- The look at the gate keeps what is kept of checkpoints: it writes nothing, and what the mutator goes on with it knew. It answers
-- `snap` only if there is no number for one more checkpoint.
use Rattle.std.proofs.Common.{◌≡◌, ℕ, ◌+◌, ◌-◌, ◌^◌, Bool, true, false, cond, Option, None, Some, Result, Ok, Err, refl, sym, ap, subst, ◌∙◌, arith}
use Rattle.std.specs.Prelude.{slice_get, slice_index}
use Rattle.std.proofs.lemmas.Bool.{eq-eqb, ltb-false}
use Rattle.std.proofs.lemmas.Option.{same_Some}
use Rattle.atom_store.specs.declared.step.Step.{Step}
use Rattle.atom_store.specs.declared.step.Step.TheVariants.{Load}
use Rattle.atom_store.specs.declared.reply.Reply.TheVariants.{Value}
use Rattle.mutator_asm.specs.declared.instr.Instr.{Instr}
use Rattle.mutator_asm.specs.declared.instr.Instr.TheVariants as instrs
use Rattle.plain_heap.specs.declared.action.Action.{Action}
use Rattle.plain_heap.specs.declared.action.Action.TheVariants.{Sets, Jumps, Links, Prints, Makes, Snaps}
use Rattle.plain_heap.specs.Action.{action}
use Rattle.plain_state.specs.declared.end.End.{End}
use Rattle.plain_state.specs.State.{Mutator, Plain}
use Rattle.gate_core.specs.declared.passage.Passage.TheVariants.{Park}
use Rattle.space_map.specs.declared.gate_word.GateWord.{GateWord}
use Rattle.space_map.specs.GateWord.{decode_gate}
use Rattle.space_map.specs.Table.{Gate, place_of}
use Rattle.heap_state.specs.Configuration.{Configuration, table, team}
use Rattle.heap_state.specs.Saving.Frozen.{Frozen}
use Rattle.heap_state.specs.Saving.Savers.{Saver}
use Rattle.heap_laws.specs.Saving.Rounds.{KnowsNoMore}
use Rattle.heap_laws.proofs.Saving.LearntSaves.{numbers_stay}
use Rattle.gc_worker.specs.declared.calls.did.Did.TheVariants.{Done}
use Rattle.gc_worker.specs.declared.stage.after.After.TheVariants as afters
use Rattle.gc_worker.specs.declared.stage.Stage.TheVariants.{Looks}
use Rattle.gc_worker.specs.declared.task.Task.{Task}
use Rattle.gc_worker.specs.declared.task.Task.TheVariants.{Calls, Stops}
use Rattle.gc_worker.specs.Plain.Answer.{after_answer}
use Rattle.gc_worker.specs.Plain.Seen.{seen}
use Rattle.gc_worker.specs.Steps.Turned.{Silent, Answers, acted, acts, begins, looked_by, passes, serves_snap, started, told_acted, told_action, told_gate, told_start, went_on}
use Rattle.gc_worker.specs.Steps.Wanted.{wanted}
use Rattle.gc_worker.specs.Workers.Held.{Held, at_stage, header_for, may_snap}
use Rattle.gc_worker.specs.Workers.Saves.{saver_of}
use Rattle.gc_worker.proofs.Plain.OnlySnap.{is_snaps, not_snap, snaps_alone, snap_takes}
use Rattle.gc_worker.proofs.Saving.Frame.Answers.{keeps_snaps}
use Rattle.gc_worker.proofs.Saving.Frame.StepRows.{forgets_by, loads_so}
use Rattle.gc_worker.proofs.Saving.Frame.Running.{running_saver, runs_forgetting, guarded_none, looks_run, leaves_run, parks_run, places_run, snaps_run}
use Rattle.gc_worker.proofs.Saving.Frame.Step.{Before, KeepsSnaps, SavesStep, saves}

-- ---- where it goes on

module _ (x : Held) (room : x.layout.checkpoints ≡ true) where
  -- it is a mutator that runs then, and has read the same
  abbrev Goes : Held → Type 0
  Goes y = saver_of y ≡ running_saver x.snap x.running

  snaps_by : (b : Bool) → Goes (cond b (at_stage x (serves_snap x)) (went_on x))
  snaps_by true = snaps_run x room
  snaps_by false = looks_run (went_on x) room

  acts_on : (act : Action) → Goes (acts x act)
  acts_on (Sets d v) = looks_run (acts x (Sets d v)) room
  acts_on (Jumps target) = looks_run (acts x (Jumps target)) room
  acts_on (Links d target) = looks_run (acts x (Links d target)) room
  acts_on (Prints n) = looks_run (acts x (Prints n)) room
  acts_on Snaps = snaps_by (may_snap x)
  acts_on (Makes kind d n v) = places_run x room (header_for x)
  acts_on _ = rw (room, guarded_none x.running) refl

  acted_on : (o : Result Action End) → Goes (acted x o)
  acted_on (Ok act) = acts_on act
  acted_on (Err why) = leaves_run x room afters.Looks

module _ (x : Held) (room : x.layout.checkpoints ≡ true) (looks : saver_of x ≡ running_saver x.snap x.running) where
  starts : (task : Option Task) → Goes x room (started x task)
  starts None = looks_run x room
  starts (Some (Calls instr)) = acted_on (begins x) room (action (seen x.account x.registers) instr)
  starts (Some (Stops end)) = leaves_run x room afters.Looks

  by_request : (request : Bool) → Goes x room (cond request (at_stage x (passes x Park afters.Looks)) (started x x.task))
  by_request true = parks_run x room afters.Looks
  by_request false = starts x.task

  looked : (o : Option GateWord) → Goes x room (looked_by x o)
  looked None = looks
  looked (Some gate) = by_request gate.request

-- ---- the plain heap

-- once there have been the most checkpoints, one more changes nothing
takes_none : (p : Plain) (k : ℕ) (o : Option Mutator) → p.heap.snaps ≡ 2 ^ 32 - 1
    → ((after_answer p k (Calls instrs.Snap) Done o).heap.snaps ≡ p.heap.snaps) × ((after_answer p k (Calls instrs.Snap) Done o).heap.snapped ≡ p.heap.snapped)
takes_none p k None most = (refl, refl)
takes_none p k (Some q) most = let test = eq-eqb p.heap.snaps (2 ^ 32 - 1) most in rw (snap_takes k p.heap q, test) (refl, refl)

module _ (c : Configuration) (p : Plain) (z : Frozen) (saver : ℕ → Saver) (k : ℕ) (y : Held) where
  abbrev x : Held
  x = at_stage y Looks

  module _ (b : Before c p z saver k x) where
    recalled : (saver_of x).recalled ≡ true
    recalled = let room = b.room in rw room refl

    -- there have been as many as the mutator has read
    as_many : y.snap ≡ p.heap.snaps
    as_many =
        let own : (saver k).snap ≡ y.snap = ap (λ (w : Saver). w.snap) b.own in
        sym own ∙ sym (numbers_stay (table c) (saves c) z (team c).count saver k b.saving b.is.below (ap (λ (w : Saver). w.recalled) b.own ∙ recalled)) ∙ b.shows.number

    most : may_snap x ≡ false → p.heap.snaps ≡ 2 ^ 32 - 1
    most none =
        let room = b.room in
        let past = ltb-false (y.snap + 1) (2 ^ 32) (rw room at none) in
        let small = b.is.fits.numbers.snap_fits in
        let same = as_many in
        omega (arith, past, small, same)

    snap_keeps : (instr : Instr) → action (seen x.account x.registers) instr ≡ Ok Snaps → may_snap x ≡ false → KeepsSnaps p k (Answers (Calls instr) Done)
    snap_keeps instr is none =
        subst (λ (i : Instr). KeepsSnaps p k (Answers (Calls i) Done)) (sym (snaps_alone (seen x.account x.registers) instr is))
        (let same = takes_none p k (slice_get p.mutators k) (most none) in record { snaps = same.0; snapped = same.1 })

    module _ (instr : Instr) where
      abbrev Acts : Result Action End → Type 0
      Acts o = action (seen x.account x.registers) instr ≡ o

      snaps_if : Acts (Ok Snaps) → (may : Bool) → may_snap x ≡ may → KeepsSnaps p k (cond may Silent (Answers (Calls instr) Done))
      snaps_if is true test = keeps_snaps p k Silent tt
      snaps_if is false test = snap_keeps instr is test

      other : (act : Action) → Acts (Ok act) → is_snaps act ≡ false → KeepsSnaps p k (Answers (Calls instr) Done)
      other act is differs = keeps_snaps p k (Answers (Calls instr) Done) (not_snap (seen x.account x.registers) instr act is differs)

      keeps_acting : (act : Action) → Acts (Ok act) → KeepsSnaps p k (told_action x (Calls instr) act)
      keeps_acting (Sets d v) is = other (Sets d v) is refl
      keeps_acting (Jumps target) is = other (Jumps target) is refl
      keeps_acting (Links d target) is = other (Links d target) is refl
      keeps_acting (Prints n) is = other (Prints n) is refl
      keeps_acting Snaps is = snaps_if is (may_snap x) refl
      keeps_acting _ is = keeps_snaps p k Silent tt

      keeps_acted : (o : Result Action End) → Acts o → KeepsSnaps p k (told_acted x (Calls instr) o)
      keeps_acted (Ok act) is = keeps_acting act is
      keeps_acted (Err why) is = keeps_snaps p k (told_acted x (Calls instr) (Err why)) tt

    keeps_starting : (task : Option Task) → KeepsSnaps p k (told_start x task)
    keeps_starting None = keeps_snaps p k Silent tt
    keeps_starting (Some (Calls instr)) = keeps_acted instr (action (seen x.account x.registers) instr) refl
    keeps_starting (Some (Stops end)) = keeps_snaps p k (told_start x (Some (Stops end))) tt

    keeps_by : (request : Bool) → KeepsSnaps p k (cond request Silent (told_start x x.task))
    keeps_by true = keeps_snaps p k Silent tt
    keeps_by false = keeps_starting x.task

    keeps : (o : Option GateWord) → KeepsSnaps p k (told_gate x o)
    keeps None = keeps_snaps p k Silent tt
    keeps (Some gate) = keeps_by gate.request

    less : (o : Option GateWord) → KnowsNoMore (saver_of (looked_by x o)) (saver_of x)
    less o =
        subst (λ (w : Saver). KnowsNoMore w (saver_of x)) (sym (looked x b.room (looks_run x b.room) o))
        (runs_forgetting (saver_of x) y.snap y.running recalled refl refl refl refl)

    pub looks : (q : Step) → wanted x ≡ Some q → SavesStep c p saver k x q
    looks q asked =
        let place : ℕ = place_of y.layout.pages Gate in
        let reads : Option GateWord = decode_gate (slice_index c.words place) in
        subst (SavesStep c p saver k x) (same_Some (Load place) q asked)
        (loads_so c p z saver k x b place (forgets_by c p z saver k x b (Value (slice_index c.words place)) (less reads) (keeps reads)))
