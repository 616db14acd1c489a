-- A passage of the gate begins with a load, which allows it or not.
use Rattle.std.proofs.Common.{◌≡◌, ℕ, ◌+◌, ◌<◌, ◌==◌, ◌&&◌, Bool, true, false, cond, Option, Some, None, is_some, refl, ap, sym, subst, ◌∙◌, arith}
use Rattle.std.specs.Prelude.{not, nat_lt}
use Rattle.std.proofs.lemmas.Bool.{eqb-true}
use Rattle.std.proofs.lemmas.Bool.Decides.{nat_tests}
use Rattle.plain_state.specs.State.{Plain}
use Rattle.atom_store.specs.declared.step.Step.TheVariants.{Load}
use Rattle.atom_store.specs.declared.reply.Reply.TheVariants.{Value}
use Rattle.space_map.specs.declared.gate_word.GateWord.{GateWord}
use Rattle.space_map.specs.GateWord.{decode_gate}
use Rattle.space_map.specs.Spaces.{Layout}
use Rattle.space_map.specs.Table.{Gate, place_of}
use Rattle.gate_core.specs.declared.gate_stage.GateStage.{GateStage}
use Rattle.gate_core.specs.declared.gate_stage.GateStage.TheVariants.{Loads, Exchanges, Ended}
use Rattle.gate_core.specs.declared.passage.Passage.{Passage}
use Rattle.gate_core.specs.declared.passage.Passage.TheVariants.{Look, Attach, Park, Request, Resume, Forwarded, Leave, Clear}
use Rattle.gate_core.specs.declared.passed.Passed.TheVariants.{NotYet}
use Rattle.gate_core.specs.Gate.{allows, allowed, is_clear, told_at, looked}
use Rattle.gate_core.specs.Soundness.{CountsAllow, FitsGateStage, MayPass}
use Rattle.heap_state.specs.Configuration.{Configuration, Stands, table, era, memory, team}
use Rattle.heap_state.specs.Invariant.Parts.Knowledge as parts
use Rattle.heap_state.specs.Known.{Known, Enter, is_behind}
use Rattle.heap_state.specs.Known as workers
use Rattle.heap_laws.specs.Answers.{GateAnswers}
use Rattle.heap_laws.proofs.Gate.GateReads.{reads_gate}
use Rattle.heap_laws.proofs.Steps.Answers.{passages_fit}
use Rattle.heap_laws.proofs.Steps.Forgotten.{traced_is_forgotten}
use Rattle.gc_worker.specs.declared.stage.after.After.{After}
use Rattle.gc_worker.specs.declared.stage.after.After.TheVariants as afters
use Rattle.gc_worker.specs.declared.stage.Stage.TheVariants.{Passes}
use Rattle.gc_worker.specs.Workers.Fits.{Fits, FitsTaskAfter, FitsTaskAsking}
use Rattle.gc_worker.specs.Steps.Goes.{Is, Goes, StepsSo}
use Rattle.gc_worker.specs.Workers.Held.{Held, at_stage, pages_needed}
use Rattle.gc_worker.specs.Workers.Knows.{knows, request_for}
use Rattle.gc_worker.specs.Steps.Turned.{passes, goes_on, forwards_from, epoch_in_gate, turned_gate}
use Rattle.gc_worker.proofs.Workers.KeptParts.{refit, before_passage}
use Rattle.gc_worker.proofs.Workers.ResumedMutators.{goes_on_known, goes_on_fits}
use Rattle.gc_worker.proofs.Stages.Gate.Resuming.{stopped_at, stopped_law, stopped_fits}
use Rattle.gc_worker.proofs.Stages.Gate.GateWords.{wants, gate_now, gate_says}
use Rattle.gc_worker.proofs.Words.RowSteps.{Law, becomes, loads, nothing, less, prepared}

-- ---- what a test says

pub clear_says : (g : GateWord) → is_clear g ≡ true → (g.request ≡ false) × (g.behind ≡ 0)
clear_says g is = by_request g.request refl is
  where
    by_request : (request : Bool) → g.request ≡ request → not request && (g.behind == 0) ≡ true → (g.request ≡ false) × (g.behind ≡ 0)
    by_request true same e = cc
    by_request false same e = (same, grind (arith, nat_tests))

unset : (b : Bool) → not b ≡ true → b ≡ false
unset true e = cc
unset false e = refl

pub resumes_so : (g : GateWord) (epoch : ℕ) → is_clear g && (g.epoch == epoch) ≡ true → (g.request ≡ false) × (g.behind ≡ 0) × (g.epoch ≡ epoch)
resumes_so g epoch is = by_clear (is_clear g) refl is
  where
    by_clear : (b : Bool) → is_clear g ≡ b → b && (g.epoch == epoch) ≡ true → (g.request ≡ false) × (g.behind ≡ 0) × (g.epoch ≡ epoch)
    by_clear true same e = let z = clear_says g same in (z.0, z.1, grind (arith, nat_tests))
    by_clear false same e = cc

-- ---- a request

-- it is for a flip or for a checkpoint
may_request : (after : After) (epoch asked : ℕ) (ended : Bool) (gate : GateWord) → ended ≡ false → gate.request ≡ false
    → parts.Passes workers.Running epoch 0 ended true gate (request_for asked after)
may_request afters.Looks epoch asked ended gate unended none = (refl, unended, none, refl)
may_request _ epoch asked ended gate unended none = (refl, unended, none, refl)

counts_itself : (after : After) (asked : ℕ) (gate : GateWord) → GateAnswers gate (request_for asked after) → 0 < gate.running
counts_itself afters.Looks asked gate a = a.counted
counts_itself _ asked gate a = a.counted

-- who requests anything may stop for it
request_stops : (y : Held) (after : After) → FitsTaskAsking y after → FitsTaskAfter y after
request_stops y afters.Looks task = absurd task
request_stops y afters.Places task = task
request_stops y afters.Snaps task = task

module _ (c : Configuration) (p : Plain) (s : Stands c p) (k : ℕ) (y : Held) (l : Layout) (after : After) where
  abbrev at : Passage → GateStage → Held
  at passage stage = at_stage y (Passes (record { layout = l; passage = passage; stage = stage }) after)

  abbrev gate : GateWord
  gate = (table c).gate

  -- the worker once its machine is at this stage
  abbrev next : Passage → GateStage → Held
  next passage stage = turned_gate (at passage Loads) (record { layout = l; passage = passage; stage = stage }) after (told_at stage)

  module _ (passage : Passage) (is : Is c k (at passage Loads)) where
    abbrev x : Held
    x = at passage Loads

    -- what the gate that was read allows
    module _ (q : workers.Passage)
        (may : parts.Passes (knows x).post (knows x).epoch (knows x).done (is_some (knows x).account.end) (knows x).traced_seen gate q) where
      may_now : parts.Passes ((team c).worker k).post ((team c).worker k).epoch ((team c).worker k).done (is_some ((team c).worker k).account.end) ((team c).worker k).traced_seen gate q
      may_now = subst (λ (w : Known). parts.Passes w.post w.epoch w.done (is_some w.account.end) w.traced_seen gate q) (sym is.as_known) may

      learnt : Law c p s k x None (record (knows x) { gate_step = Some (record { read = gate; passage = q }) }) s.ghost
      learnt = subst (λ (w : Known). Law c p s k x None (record w { gate_step = Some (record { read = gate; passage = q }) }) s.ghost) is.as_known
          (reads_gate (era c) (memory c) (team c) s.ghost k q (prepared c p s k x is) may_now)

      abbrev answers : GateAnswers gate q
      answers = passages_fit (era c) (memory c) (team c) s.ghost k q (prepared c p s k x is) may_now

    -- the stage after the load
    abbrev after_load : Option GateWord → GateStage
    after_load o = looked passage (gate_now c) o

    abbrev by_test : Bool → GateStage
    by_test b = cond b (allowed passage (gate_now c) gate) (Ended (NotYet (gate_now c)))

    module _ (b : Bool) (test : allows passage gate ≡ b) where
      reads : after_load (decode_gate (gate_now c)) ≡ by_test b
      reads = ap after_load (gate_says c p s) ∙ ap by_test test

      -- the load makes this of the worker
      goes : (z : Held) → next passage (by_test b) ≡ z → FitsGateStage passage (by_test b) → Law c p s k x None (knows z) s.ghost → Fits c.pages c.mutators k z
          → Goes c p s k None x (Value (gate_now c))
      goes z same stage law fits = becomes c p s k x None (Value (gate_now c)) z s.ghost (ap (next passage) reads ∙ same) is.below law refl refl
          (record { pages = is.fits.stage.sound.pages; stage = subst (FitsGateStage passage) (sym reads) stage }) fits

    -- it is allowed, and the exchange is next
    exchange_next : (q : workers.Passage)
        (may : parts.Passes (knows x).post (knows x).epoch (knows x).done (is_some (knows x).account.end) (knows x).traced_seen gate q)
        → allows passage gate ≡ true → next passage (by_test true) ≡ at passage (Exchanges gate) → by_test true ≡ Exchanges gate
        → (GateAnswers gate q → CountsAllow passage gate)
        → record (knows x) { gate_step = Some (record { read = gate; passage = q }) } ≡ knows (at passage (Exchanges gate)) → Goes c p s k None x (Value (gate_now c))
    exchange_next q may test same stage counts known =
        let sound : MayPass passage gate = record { fits = (answers q may).fits; allowed = test; counts = counts (answers q may) } in
        goes true test (at passage (Exchanges gate)) same (subst (FitsGateStage passage) (sym stage) sound)
        (subst (λ (w : Known). Law c p s k x None w s.ghost) known (learnt q may))
        (refit c.pages c.mutators k x is.fits (Passes (record { layout = l; passage = passage; stage = Exchanges gate }) after) is.fits.end is.fits.side is.fits.task
        (record { layout = is.fits.stage.layout; passage = is.fits.stage.passage; going = tt; sound = record { pages = is.fits.stage.sound.pages; stage = sound } }))

    pub steps_of : Goes c p s k None x (Value (gate_now c)) → StepsSo c p s k x
    steps_of g = wants c p s k x (Load (place_of c.pages Gate)) (ap (λ n. Some (Load (place_of n Gate))) (ap (λ (m : Layout). m.pages) is.fits.stage.layout ∙ is.fits.pages)) (loads c p s k x Gate tt g)

  -- ---- each passage

  attaches : (is : Is c k (at Attach Loads)) (b : Bool) → allows Attach gate ≡ b → Goes c p s k None (at Attach Loads) (Value (gate_now c))
  attaches is true test =
      let clear = clear_says gate test in
      exchange_next Attach is Enter (refl, clear.0, clear.1) test refl refl (λ a. (a.after.live_fits, a.after.running_fits)) refl
  attaches is false test =
      let x = at Attach Loads in
      let z = at_stage x (passes x Attach after) in
      goes Attach is false test z refl tt (nothing c p s k x is (knows z) refl) (before_passage c.pages c.mutators k x is.fits Attach after is.fits.end is.fits.side is.fits.task tt)

  parks : (is : Is c k (at Park Loads)) (b : Bool) → allows Park gate ≡ b → Goes c p s k None (at Park Loads) (Value (gate_now c))
  parks is true test = exchange_next Park is workers.Park (refl, is.fits.end, test) test refl refl (λ a. a.counted) refl
  parks is false test =
      let x = at Park Loads in
      let z = at_stage x (goes_on x after) in
      goes Park is false test z refl tt (nothing c p s k x is (knows z) (sym (goes_on_known x after))) (goes_on_fits c.pages c.mutators k x is.fits is.fits.end is.fits.side after is.fits.task)

  requests : (is : Is c k (at Request Loads)) (b : Bool) → allows Request gate ≡ b → Goes c p s k None (at Request Loads) (Value (gate_now c))
  requests is true test =
      exchange_next Request is (request_for (pages_needed y) after) (may_request after y.epoch (pages_needed y) (is_some y.account.end) gate is.fits.end (unset gate.request test)) test refl refl
      (counts_itself after (pages_needed y) gate) refl
  requests is false test =
      let x = at Request Loads in
      let z = at_stage x (passes x Park after) in
      goes Request is false test z refl tt (less c p s k x is (knows z) (traced_is_forgotten (knows x) refl refl)) (before_passage c.pages c.mutators k x is.fits Park after is.fits.end is.fits.side (request_stops y after is.fits.task) tt)

  resumes : (epoch : ℕ) (is : Is c k (at (Resume epoch) Loads)) (b : Bool) → allows (Resume epoch) gate ≡ b → Goes c p s k None (at (Resume epoch) Loads) (Value (gate_now c))
  resumes epoch is true test =
      let now = resumes_so gate epoch test in
      exchange_next (Resume epoch) is workers.Resume (refl, now.2 ∙ is.fits.stage.passage, now.0, now.1) test refl refl (λ a. a.after.running_fits) refl
  resumes epoch is false test =
      let x = at (Resume epoch) Loads in
      let later = nat_lt x.epoch gate.epoch in
      goes (Resume epoch) is false test (stopped_at c p s k x after is refl is.fits.end later)
      (ap (λ (o : Option GateWord). at_stage x (cond (nat_lt x.epoch (epoch_in_gate x.epoch o)) (forwards_from x after 0) (passes x (Resume x.epoch) after))) (gate_says c p s)) tt
      (stopped_law c p s k x after is refl is.fits.end later refl) (stopped_fits c p s k x after is refl is.fits.end is.fits.side is.fits.task later refl)

  -- who has forwarded its registers is late
  late : (is : Is c k (at Forwarded Loads)) (b : Bool) → is_behind (era c).epoch workers.Stopped y.epoch ≡ b → gate.epoch ≡ y.epoch + 1
  late is true behind = let e = eqb-true (y.epoch + 1) (era c).epoch behind in sym e
  late is false behind =
      let t = (s.invariant.workers k is.below).timely in
      let e : ((team c).worker k).done ≡ 8 = ap (λ (w : Known). w.done) is.as_known in
      let z = t.rest (ap (λ (w : Known). is_behind (era c).epoch w.post w.epoch) is.as_known ∙ behind) in
      absurd (omega (arith, e, z))

  forwards : (is : Is c k (at Forwarded Loads)) → Goes c p s k None (at Forwarded Loads) (Value (gate_now c))
  forwards is = exchange_next Forwarded is workers.Forwarded (refl, late is (is_behind (era c).epoch workers.Stopped y.epoch) refl, refl) refl refl refl (λ a. a.counted) refl

  leaves : (is : Is c k (at Leave Loads)) → Goes c p s k None (at Leave Loads) (Value (gate_now c))
  leaves is = exchange_next Leave is workers.Leave (refl, is.fits.end) refl refl refl (λ a. (a.counted.0, a.counted.1, a.after.left_fits)) refl

  clears : (is : Is c k (at Clear Loads)) → Goes c p s k None (at Clear Loads) (Value (gate_now c))
  clears is = exchange_next Clear is workers.Clear refl refl refl refl (λ a. tt) refl

  pub loads_gate : (passage : Passage) → Is c k (at passage Loads) → StepsSo c p s k (at passage Loads)
  loads_gate Look is = absurd is.fits.stage.passage
  loads_gate Attach is = steps_of Attach is (attaches is (allows Attach gate) refl)
  loads_gate Park is = steps_of Park is (parks is (allows Park gate) refl)
  loads_gate Request is = steps_of Request is (requests is (allows Request gate) refl)
  loads_gate (Resume epoch) is = steps_of (Resume epoch) is (resumes epoch is (allows (Resume epoch) gate) refl)
  loads_gate Forwarded is = steps_of Forwarded is (forwards is)
  loads_gate Leave is = steps_of Leave is (leaves is)
  loads_gate Clear is = steps_of Clear is (clears is)
