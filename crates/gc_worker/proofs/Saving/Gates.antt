-- A passage of the gate keeps what is kept of checkpoints: who is still holds the request, and then nobody else passes.
use Rattle.std.proofs.Common.{◌≡◌, ℕ, inl, Bool, true, false, cond, nat_lt, Option, None, Some, refl, sym, ap, subst, ◌∙◌, arith, slice_index}
use Rattle.std.specs.Prelude.{⊤}
use Rattle.std.proofs.lemmas.Bool.{eq-eqb}
use Rattle.plain_state.specs.State.{Plain}
use Rattle.atom_store.specs.declared.reply.Reply.TheVariants.{Value, Won, Lost}
use Rattle.atom_store.specs.declared.step.Step.{Step}
use Rattle.atom_store.specs.declared.step.Step.TheVariants.{Load, Exchange}
use Rattle.space_map.specs.declared.gate_word.GateWord.{GateWord}
use Rattle.space_map.specs.GateWord.{GateFits, decode_gate, encode_gate}
use Rattle.space_map.specs.Spaces.{Layout}
use Rattle.space_map.specs.Table.{Gate, place_of}
use Rattle.space_map.proofs.GateWords.{encode_gate-gate_in}
use Rattle.gate_core.specs.declared.gate_stage.GateStage.{GateStage}
use Rattle.gate_core.specs.declared.gate_stage.GateStage.TheVariants.{Loads, Exchanges, Ended}
use Rattle.gate_core.specs.declared.passage.Passage.{Passage}
use Rattle.gate_core.specs.declared.passage.Passage.TheVariants.{Look, Attach, Park, Request, Resume, Forwarded, Leave, Clear}
use Rattle.gate_core.specs.declared.passed.Passed.TheVariants.{Went, NotYet}
use Rattle.gate_core.specs.Gate.{Passing, allowed, allows, gate_after, looked, told_at}
use Rattle.heap_state.specs.Configuration.{Configuration, table, era, memory, team}
use Rattle.heap_state.specs.Functions.{put}
use Rattle.heap_state.specs.Memory.Entries.{Entry, GateIs, Within}
use Rattle.heap_state.specs.Saving.Frozen.{Frozen}
use Rattle.heap_state.specs.Saving.Parts.{SavingStands}
use Rattle.heap_state.specs.Saving.Savers.{Saver}
use Rattle.heap_state.specs.Known.{GateStep, Known}
use Rattle.heap_state.specs.Known as workers
use Rattle.heap_laws.specs.Gate as laws
use Rattle.heap_laws.specs.Lifting.{table_after}
use Rattle.heap_laws.specs.Saving.Rounds.{KnowsNoMore}
use Rattle.heap_laws.specs.Saving.Sparing.{saver_passed}
use Rattle.heap_laws.specs.Steps.{Ready}
use Rattle.heap_laws.proofs.Gate.Passages.{passes_gate}
use Rattle.heap_laws.proofs.Lifting.Laws.{steps_are_lifted}
use Rattle.heap_laws.proofs.Saving.Passing.{passages_keep_saving}
use Rattle.gc_worker.specs.declared.stage.after.After.{After}
use Rattle.gc_worker.specs.declared.stage.after.After.TheVariants as afters
use Rattle.gc_worker.specs.declared.stage.Stage.TheVariants.{Gone, Passes}
use Rattle.gc_worker.specs.Steps.Turned.{Pointed, Silent, epoch_said, first_pointer, forwards_it, passed_by, passes, turned, turned_gate}
use Rattle.gc_worker.specs.Steps.Wanted.{wanted}
use Rattle.gc_worker.specs.Workers.Held.{Held, at_stage, pages_needed}
use Rattle.gc_worker.specs.Workers.Knows.{knows, request_for}
use Rattle.gc_worker.specs.Workers.Saves.{saver_at, saver_of, unfound_gate}
use Rattle.gc_worker.proofs.Saving.Frame.Answers.{keeps_snaps}
use Rattle.gc_worker.proofs.Saving.Collector.KeptCopies.{stopped_saver, stopped_less}
use Rattle.gc_worker.proofs.Saving.Frame.Forgetting.{SavesSo}
use Rattle.gc_worker.proofs.Saving.Frame.StepRows.{SavedBy, by_won, exchanges_so, forgets_by, kept_by, loads_so, reads_any}
use Rattle.gc_worker.proofs.Saving.Frame.Running.{running_saver, goes_on_runs, parks_run, runs_forgetting}
use Rattle.gc_worker.proofs.Saving.Mutators.KeptSaves.{asked_so}
use Rattle.gc_worker.proofs.Saving.Frame.Step.{Before, prepared, saves}
use Rattle.gc_worker.proofs.Stages.Gate.GateWords.{gate_is, gate_now, gate_word}

-- ---- what a worker holds of checkpoints at the gate

-- who is about to request anything has found that no checkpoint is in progress
abbrev asking_saver : (snap running : ℕ) → Saver
asking_saver snap running = record (running_saver snap running) { settled = true }

asking_less : (snap running : ℕ) → KnowsNoMore (asking_saver snap running) (asking_saver snap running)
asking_less snap running = record {
  recalled = λ is. (refl, refl, refl, refl, refl);
  settled = λ is. (refl, refl, inl refl);
  still = λ gate is. absurd (cc);
  guarded = λ page is. absurd (cc);
  marked = λ page is. absurd (cc);
  save = refl;
  reads = inl refl;
  round = λ r is. absurd (cc);
}

-- a passage that a worker makes, but for the one that clears the request
abbrev IsOther : Passage → Type 0
IsOther Look = ⊥
IsOther Clear = ⊥
IsOther passage = ⊤

-- what it holds before it
abbrev held_before : (snap running : ℕ) → Passage → Saver
held_before snap running Attach = stopped_saver snap running
held_before snap running (Resume epoch) = stopped_saver snap running
held_before snap running Forwarded = stopped_saver snap running
held_before snap running Request = asking_saver snap running
held_before snap running passage = running_saver snap running

running_less : (snap running : ℕ) → KnowsNoMore (running_saver snap running) (running_saver snap running)
running_less snap running = runs_forgetting (running_saver snap running) snap running refl refl refl refl refl

same_less : (snap running : ℕ) (passage : Passage) → KnowsNoMore (held_before snap running passage) (held_before snap running passage)
same_less snap running Attach = stopped_less snap running
same_less snap running Request = asking_less snap running
same_less snap running (Resume epoch) = stopped_less snap running
same_less snap running Forwarded = stopped_less snap running
same_less snap running _ = running_less snap running

requested : (after : After) (asked : ℕ) (gate : GateWord) → gate_after Request gate ≡ laws.gate_after (request_for asked after) gate
requested afters.Looks asked gate = refl
requested _ asked gate = refl

module _ (y : Held) (l : Layout) (after : After) where
  abbrev at : Passage → GateStage → Held
  at passage stage = at_stage y (Passes (record { layout = l; passage = passage; stage = stage }) after)

  module _ (room : y.layout.checkpoints ≡ true) where
    before : (passage : Passage) → IsOther passage → (stage : GateStage) → saver_of (at passage stage) ≡ held_before y.snap y.running passage
    before Look other stage = absurd other
    before Clear other stage = absurd other
    before _ other stage = rw room refl

    -- ---- the gate is loaded

    -- the worker once its machine is at this stage
    abbrev next : Passage → GateStage → Held
    next passage stage = turned_gate (at passage Loads) (record { layout = l; passage = passage; stage = stage }) after (told_at stage)

    abbrev Less : Passage → GateStage → Type 0
    Less passage stage = KnowsNoMore (saver_of (next passage stage)) (held_before y.snap y.running passage)

    less_as : (passage : Passage) (stage : GateStage) → saver_of (next passage stage) ≡ held_before y.snap y.running passage → Less passage stage
    less_as passage stage same = subst (λ (w : Saver). KnowsNoMore w (held_before y.snap y.running passage)) (sym same) (same_less y.snap y.running passage)

    -- a stopped mutator that may not run on, late or not
    stopped_as : (epoch : ℕ) (late : Bool) (o : Option Pointed)
        → saver_of (at_stage (at (Resume epoch) Loads) (cond late (forwards_it (at (Resume epoch) Loads) after o) (passes (at (Resume epoch) Loads) (Resume y.epoch) after))) ≡ stopped_saver y.snap y.running
    stopped_as epoch true (Some q) = rw room refl
    stopped_as epoch true None = rw room refl
    stopped_as epoch false o = rw room refl

    module _ (word : ℕ) (gate : GateWord) where
      abbrev by_test : Passage → Bool → GateStage
      by_test passage t = cond t (allowed passage word gate) (Ended (NotYet word))

      tested : (passage : Passage) → IsOther passage → (t : Bool) → Less passage (by_test passage t)
      tested Look other t = absurd other
      tested Attach other true = less_as Attach (Exchanges gate) (before Attach other (Exchanges gate))
      tested Attach other false = less_as Attach (Ended (NotYet word)) (rw room refl)
      tested Park other true = less_as Park (Exchanges gate) (before Park other (Exchanges gate))
      tested Park other false = less_as Park (Ended (NotYet word)) (goes_on_runs (at Park Loads) room after)
      tested Request other true = less_as Request (Exchanges gate) (before Request other (Exchanges gate))
      tested Request other false =
          subst (λ (w : Saver). KnowsNoMore w (asking_saver y.snap y.running)) (sym (parks_run (at Request Loads) room after))
          (runs_forgetting (asking_saver y.snap y.running) y.snap y.running refl refl refl refl refl)
      tested (Resume epoch) other true = less_as (Resume epoch) (Exchanges gate) (before (Resume epoch) other (Exchanges gate))
      tested (Resume epoch) other false =
          less_as (Resume epoch) (Ended (NotYet word)) (stopped_as epoch (nat_lt y.epoch (epoch_said y.epoch word)) (first_pointer y.registers 8 0))
      tested Forwarded other true = less_as Forwarded (Exchanges gate) (before Forwarded other (Exchanges gate))
      tested Forwarded other false = less_as Forwarded (Ended (NotYet word)) (before Forwarded other Loads)
      tested Leave other true = less_as Leave (Exchanges gate) (before Leave other (Exchanges gate))
      tested Leave other false = less_as Leave (Ended (NotYet word)) (before Leave other Loads)
      tested Clear other t = absurd other

    loaded : (passage : Passage) → IsOther passage → (word : ℕ) (o : Option GateWord) → Less passage (looked passage word o)
    loaded passage other word None = less_as passage Loads (before passage other Loads)
    loaded passage other word (Some gate) = tested word gate passage other (allows passage gate)

    pub less_loaded : (passage : Passage) → IsOther passage → (word : ℕ) → KnowsNoMore (saver_of (turned (at passage Loads) (Value word))) (saver_of (at passage Loads))
    less_loaded passage other word =
        subst (KnowsNoMore (saver_of (turned (at passage Loads) (Value word)))) (sym (before passage other Loads)) (loaded passage other word (decode_gate word))

    -- ---- the exchange is lost

    less_lost : (passage : Passage) → IsOther passage → (gate : GateWord) (word : ℕ) → KnowsNoMore (saver_of (turned (at passage (Exchanges gate)) (Lost word))) (saver_of (at passage (Exchanges gate)))
    less_lost passage other gate word =
        subst (KnowsNoMore (saver_of (at passage Loads))) (sym (before passage other (Exchanges gate))) (less_as passage Loads (before passage other Loads))

    -- ---- it is won

    abbrev Becomes : Passage → workers.Passage → Type 0
    Becomes passage q = (stage : GateStage) (word : ℕ) → saver_of (passed_by (at passage stage) after passage (Went word)) ≡ saver_passed q (saver_of (at passage stage))

    enters : Becomes Attach workers.Enter
    enters stage word = rw room refl

    parks : Becomes Park workers.Park
    parks stage word = rw room refl

    resumes : (epoch : ℕ) → Becomes (Resume epoch) workers.Resume
    resumes epoch stage word = rw room refl

    forwarded : Becomes Forwarded workers.Forwarded
    forwarded stage word = rw room refl

    gone_by : (stage : GateStage) (is_mutator : Bool) → nat_lt y.number y.mutators ≡ is_mutator → saver_at y Gone ≡ saver_passed workers.Leave (saver_of (at Leave stage))
    gone_by stage true test = rw (room, test) refl
    gone_by stage false test = rw (room, test) refl

    leaves : Becomes Leave workers.Leave
    leaves stage word = gone_by stage (nat_lt y.number y.mutators) refl

-- what is requested
module _ (y : Held) (l : Layout) (room : y.layout.checkpoints ≡ true) where
  requests : (after : After) → Becomes y l after room Request (request_for (pages_needed y) after)
  requests afters.Looks stage word = rw room refl
  requests _ stage word = rw room refl

-- from the gate that was found
clears : (y : Held) (l : Layout) (after : After) (room : y.layout.checkpoints ≡ true) (gate : GateWord) (word : ℕ)
    → saver_of (passed_by (at y l after Clear (Exchanges gate)) after Clear (Went word)) ≡ saver_passed workers.Clear (saver_of (at y l after Clear (Exchanges gate)))
clears y l after room gate word = rw room refl

-- ---- the steps

module _ (c : Configuration) (p : Plain) (z : Frozen) (saver : ℕ → Saver) (k : ℕ) (y : Held) (l : Layout) (after : After) where
  abbrev here : Passage → GateStage → Held
  here passage stage = at y l after passage stage

  module _ (passage : Passage) (stage : GateStage) (b : Before c p z saver k (here passage stage)) where
    pages : l.pages ≡ c.pages
    pages = ap (λ (m : Layout). m.pages) b.is.fits.stage.layout ∙ b.is.fits.pages

  loads : (passage : Passage) → IsOther passage → Before c p z saver k (here passage Loads) → SavesSo c p saver k (here passage Loads)
  loads passage other b q asked =
      let x = here passage Loads in
      let place : ℕ = place_of c.pages Gate in
      let word : ℕ = slice_index c.words place in
      asked_so c p z saver k x b (Load place) q (ap (λ (n : ℕ). Some (Load (place_of n Gate))) (pages passage Loads b)) asked
      (loads_so c p z saver k x b place (forgets_by c p z saver k x b (Value word) (less_loaded y l after b.room passage other word) (keeps_snaps p k Silent tt)))

  module _ (gate : GateWord) (passage : Passage) (b : Before c p z saver k (here passage (Exchanges gate))) where
    abbrev x : Held
    x = here passage (Exchanges gate)

    abbrev entry : Entry
    entry = GateIs (gate_after passage gate)

    abbrev exchange : ℕ → Step
    exchange n = Exchange (place_of n Gate) (encode_gate gate) (encode_gate (gate_after passage gate))

    wants : wanted x ≡ Some (exchange c.pages)
    wants = ap (λ (n : ℕ). Some (exchange n)) (pages passage (Exchanges gate) b)

    ready_now : Ready (era c) (memory c) (team c) b.stands.ghost k
    ready_now = prepared c p z saver k x b

    module _ (q : workers.Passage) (steps : (knows x).gate_step ≡ Some (record { read = gate; passage = q })) (same : gate_after passage gate ≡ laws.gate_after q gate)
        (becomes : saver_of (turned x Won) ≡ saver_passed q (saver_of x)) where
      abbrev step : GateStep
      step = record { read = gate; passage = q }

      module _ (now : (table c).gate ≡ gate) where
        wins_gate : laws.WinsGate (memory c) (team c) k step
        wins_gate = record { step = ap (λ (w : Known). w.gate_step) b.is.as_known ∙ steps; unchanged = now }

        fits : GateFits (gate_after passage gate)
        fits =
            rw same (steps_are_lifted c p b.stands (Some (GateIs (laws.gate_after q gate))) k (laws.worker_after gate.epoch q ((team c).worker k)) b.stands.ghost b.is.below
            (passes_gate (era c) (memory c) (team c) b.stands.ghost k step ready_now (ap (λ (w : Known). w.pass) b.is.as_known) wins_gate)).fits

        stands : SavingStands (table_after (table c) (Some entry)) (saves c) z (team c).count (put saver k (saver_of (turned x Won)))
        stands =
            subst (λ (w : Saver). SavingStands (table_after (table c) (Some entry)) (saves c) z (team c).count (put saver k w)) (ap (saver_passed q) b.own ∙ sym becomes)
            (subst (λ (g : GateWord). SavingStands (table_after (table c) (Some (GateIs g))) (saves c) z (team c).count (put saver k (saver_passed q (saver k)))) (sym same)
            (passages_keep_saving (table c) (saves c) z (team c) b.stands.ghost saver k step b.saving ready_now b.posts wins_gate))

        kept : SavedBy c p saver k x (Some entry) Won
        kept = kept_by c p z saver k x b (Some entry) Won fits refl stands (keeps_snaps p k Silent tt)

      wins : gate_now c ≡ encode_gate gate → SavedBy c p saver k x (Some entry) Won
      wins at_gate = kept (gate_is c gate b.is.fits.stage.sound.stage.fits at_gate)

      -- it is won or lost
      passes_so : IsOther passage → SavesSo c p saver k x
      passes_so other r asked =
          let word : ℕ = slice_index c.words (place_of c.pages Gate) in
          asked_so c p z saver k x b (exchange c.pages) r wants asked
          (exchanges_so c p z saver k x b entry (encode_gate gate) tt wins
          (forgets_by c p z saver k x b (Lost word) (less_lost y l after b.room passage other gate word) (keeps_snaps p k Silent tt)))

  -- ---- the request is cleared

  -- the gate that was found stands still
  module _ (stage : GateStage) (b : Before c p z saver k (here Clear stage)) (gate : GateWord) (still : (saver_of (here Clear stage)).still ≡ Some gate) where
    found : ((table c).gate ≡ gate) × (gate.running ≡ 0)
    found =
        let all = (b.saving.workers.each k b.is.below).still gate (ap (λ (w : Saver). w.still) b.own ∙ still) in
        (all.1, all.2)

  clears_so : (gate : GateWord) → Before c p z saver k (here Clear (Exchanges gate)) → SavesSo c p saver k (here Clear (Exchanges gate))
  clears_so gate b q asked =
      let x = here Clear (Exchanges gate) in
      let e : Entry = GateIs (gate_after Clear gate) in
      let now : (table c).gate ≡ gate = (found (Exchanges gate) b gate refl).0 in
      let says : gate_now c ≡ encode_gate gate = sym (encode_gate-gate_in (gate_now c)) ∙ ap encode_gate (sym (gate_word c) ∙ now) in
      let word : ℕ = slice_index c.words (place_of c.pages Gate) in
      asked_so c p z saver k x b (exchange gate Clear b c.pages) q (wants gate Clear b) asked
      (by_won c p z saver k x b e (encode_gate gate) tt (eq-eqb word (encode_gate gate) (reads_any c (Within Gate) tt ∙ says))
      (kept gate Clear b workers.Clear refl refl (clears y l after b.room gate (encode_gate (gate_after Clear gate))) now))

  by_stage : (passage : Passage) (stage : GateStage) → Before c p z saver k (here passage stage) → SavesSo c p saver k (here passage stage)
  by_stage Look stage b = absurd b.is.fits.stage.passage
  by_stage passage (Ended result) b = absurd b.is.fits.stage.going
  by_stage Attach Loads b = loads Attach tt b
  by_stage Attach (Exchanges gate) b = passes_so gate Attach b workers.Enter refl refl (enters y l after b.room (Exchanges gate) (encode_gate (gate_after Attach gate))) tt
  by_stage Park Loads b = loads Park tt b
  by_stage Park (Exchanges gate) b = passes_so gate Park b workers.Park refl refl (parks y l after b.room (Exchanges gate) (encode_gate (gate_after Park gate))) tt
  by_stage Request Loads b = loads Request tt b
  by_stage Request (Exchanges gate) b =
      passes_so gate Request b (request_for (pages_needed y) after) refl (requested after (pages_needed y) gate) (requests y l b.room after (Exchanges gate) (encode_gate (gate_after Request gate))) tt
  by_stage (Resume epoch) Loads b = loads (Resume epoch) tt b
  by_stage (Resume epoch) (Exchanges gate) b =
      passes_so gate (Resume epoch) b workers.Resume refl refl (resumes y l after b.room epoch (Exchanges gate) (encode_gate (gate_after (Resume epoch) gate))) tt
  by_stage Forwarded Loads b = loads Forwarded tt b
  by_stage Forwarded (Exchanges gate) b = passes_so gate Forwarded b workers.Forwarded refl refl (forwarded y l after b.room (Exchanges gate) (encode_gate (gate_after Forwarded gate))) tt
  by_stage Leave Loads b = loads Leave tt b
  by_stage Leave (Exchanges gate) b = passes_so gate Leave b workers.Leave refl refl (leaves y l after b.room (Exchanges gate) (encode_gate (gate_after Leave gate))) tt
  by_stage Clear Loads b =
      let none : 1 ≡ 0 = (found Loads b unfound_gate refl).1 in
      absurd (omega (arith, none))
  by_stage Clear (Exchanges gate) b = clears_so gate b

pub gates : (c : Configuration) (p : Plain) (z : Frozen) (saver : ℕ → Saver) (k : ℕ) (x : Held) (g : Passing) (after : After)
    → Before c p z saver k (at_stage x (Passes g after)) → SavesSo c p saver k (at_stage x (Passes g after))
gates c p z saver k x g after b = by_stage c p z saver k x g.layout after g.passage g.stage b
