-- The passages of the gate by a lone mutator: each is allowed, and each exchange is won.
use Rattle.std.proofs.Common.{◌≡◌, ◌≢◌, ℕ, ◌+◌, ◌<◌, ◌≤◌, ◌==◌, inl, inr, Bool, true, false, cond, Option, Some, None, nat_lt, refl, sym, ap, subst, ◌∙◌, arith, ⊎_elim}
use Rattle.std.specs.Prelude.{not}
use Rattle.std.proofs.lemmas.Bool.{eq-eqb, ne_eqb, lt-ltb}
use Rattle.std.proofs.lemmas.Bool.Decides.{nat_tests}
use Rattle.plain_state.specs.State.{Plain}
use Rattle.atom_store.specs.declared.reply.Reply.TheVariants.{Won}
use Rattle.atom_store.specs.declared.step.Step.TheVariants.{Load, Exchange}
use Rattle.space_map.specs.declared.gate_word.GateWord.{GateWord}
use Rattle.space_map.specs.GateWord.{GateFits, encode_gate, decode_gate}
use Rattle.space_map.specs.Spaces.{Layout}
use Rattle.space_map.specs.Table.{Gate, place_of}
use Rattle.space_map.proofs.GateWords.{decode_gate-encode_gate}
use Rattle.gate_core.specs.declared.gate_stage.GateStage.{GateStage}
use Rattle.gate_core.specs.declared.gate_stage.GateStage.TheVariants.{Loads, Exchanges, Ended}
use Rattle.gate_core.specs.declared.passage.Passage.{Passage}
use Rattle.gate_core.specs.declared.passage.Passage.TheVariants.{Attach, Request, Resume, Forwarded, Clear}
use Rattle.gate_core.specs.declared.passed.Passed.TheVariants.{NotYet}
use Rattle.gate_core.specs.Gate.{allows, allowed, gate_after, is_clear, looked, told_at}
use Rattle.heap_state.specs.Configuration.{Configuration, Stands, table}
use Rattle.heap_state.specs.Memory.Entries.{GateIs}
use Rattle.heap_state.specs.Memory.Table.{Table}
use Rattle.heap_state.proofs.Table.Spelled.{spelled}
use Rattle.gc_worker.specs.declared.stage.after.After.{After}
use Rattle.gc_worker.specs.declared.stage.after.After.TheVariants as afters
use Rattle.gc_worker.specs.declared.stage.Stage.TheVariants.{Looks, Passes, Recalls}
use Rattle.gc_worker.specs.Workers.Begun.{IsPastAfter}
use Rattle.gc_worker.specs.Workers.Fits.{FitsTaskAfter, IsMaking, MayRequest}
use Rattle.gc_worker.specs.Workers.Held.{Held, at_stage}
use Rattle.gc_worker.specs.Steps.Turned.{Pointed, after_request, epoch_in_gate, epoch_said, first_pointer, forwards_it, goes_on, in_epoch, passes, runs_on, turned, turned_gate}
use Rattle.gc_worker.proofs.Stages.Gate.Passing.{resumes_so}
use Rattle.gc_worker.proofs.Stages.Gate.GateWords.{gate_now, gate_says}
use Rattle.gate_core.specs.Recall as recall
use Rattle.lone_mutator.specs.Bound.{flips_cost, growths, longest_placing, recall_cost, whole_cost}
use Rattle.lone_mutator.specs.Lone.{GoesOnLooking, GoesOnPlacing}
use Rattle.lone_mutator.specs.Potential.{after_left, due_in, flip_left, flips_left, growing_left, potential_in, size_in}
use Rattle.lone_mutator.specs.Law.{IsAlone, Lowers, StepsLower, saves}
use Rattle.lone_mutator.proofs.Stages.Gate.LoneGateCounts.{and_false, is_clear_so, knowing, no_request, none_behind, none_live}
use Rattle.lone_mutator.proofs.Steps.ResumedCosts.{GoesAt, goes_placing}
use Rattle.lone_mutator.proofs.Steps.Owed.{exchanges, loads, wants}

same_so : (own epoch : ℕ) → own ≡ epoch → nat_lt own epoch ≡ false
same_so own epoch now = grind (arith, nat_tests)

lt_by : (a b cost : ℕ) → a ≤ cost → cost < b → a < b
lt_by a b cost within below = omega (arith, within, below)

module _ (c : Configuration) (p : Plain) (s : Stands c p) (y : Held) (l : Layout) (after : After) where
  abbrev at : Passage → GateStage → Held
  at passage stage = at_stage y (Passes (record { layout = l; passage = passage; stage = stage }) after)

  abbrev g : GateWord
  g = (table c).gate

  -- the worker once its machine is at this stage
  abbrev next : Passage → GateStage → Held
  next passage stage = turned_gate (at passage Loads) (record { layout = l; passage = passage; stage = stage }) after (told_at stage)

  -- ---- the load

  module _ (passage : Passage) (a : IsAlone c (at passage Loads)) where
    abbrev Falls : GateStage → Type 0
    Falls stage = Lowers c.pages (saves c) (table c) (table c) (at passage Loads) (next passage stage)

    -- by what the gate allows
    loads_by : Falls (cond (allows passage g) (allowed passage (gate_now c) g) (Ended (NotYet (gate_now c)))) → StepsLower c (at passage Loads)
    loads_by falls =
        wants c p s (at passage Loads) (Load (place_of c.pages Gate)) (ap (λ n. Some (Load (place_of n Gate))) (ap (λ (m : Layout). m.pages) a.is.fits.stage.layout ∙ a.is.fits.pages))
        (loads c p s (at passage Loads) Gate tt (subst (λ (o : Option GateWord). Falls (looked passage (gate_now c) o)) (sym (gate_says c p s)) falls))

    -- the exchange is next
    allowed_by : allows passage g ≡ true → Falls (allowed passage (gate_now c) g) → StepsLower c (at passage Loads)
    allowed_by test falls = loads_by (rw test falls)

  attach_loads : IsAlone c (at Attach Loads) → StepsLower c (at Attach Loads)
  attach_loads a =
      allowed_by Attach a (is_clear_so g (no_request c p s (at Attach Loads) a refl) (none_live c p s (at Attach Loads) a refl))
      (record { remembers = record { began = a.remembers.began; quiet = a.remembers.quiet; stands = (tt, refl) }; falls = omega arith })

  request_loads : IsAlone c (at Request Loads) → StepsLower c (at Request Loads)
  request_loads a =
      allowed_by Request a (ap not (no_request c p s (at Request Loads) a refl))
      (record { remembers = record { began = a.remembers.began; quiet = a.remembers.quiet; stands = (tt, refl) }; falls = omega arith })

  forwarded_loads : IsAlone c (at Forwarded Loads) → StepsLower c (at Forwarded Loads)
  forwarded_loads a =
      allowed_by Forwarded a refl
      (record { remembers = record { began = a.remembers.began; quiet = a.remembers.quiet; stands = (a.remembers.stands.0, refl) }; falls = omega arith })

  clear_loads : IsAlone c (at Clear Loads) → StepsLower c (at Clear Loads)
  clear_loads a =
      allowed_by Clear a refl
      (record { remembers = record { began = a.remembers.began; quiet = a.remembers.quiet; stands = (tt, refl) }; falls = omega arith })

  -- ---- a stopped mutator at the gate

  module _ (epoch : ℕ) (a : IsAlone c (at (Resume epoch) Loads)) where
    abbrev x : Held
    x = at (Resume epoch) Loads

    -- of the gate's epoch
    resumes_now : y.epoch ≡ g.epoch → StepsLower c x
    resumes_now now =
        let own : g.epoch ≡ epoch = sym now ∙ sym a.is.fits.stage.passage in
        let clear = is_clear_so g (no_request c p s x a refl) (none_behind c p s x a now) in
        let test : allows (Resume epoch) g ≡ true = rw (clear, eq-eqb g.epoch epoch own) refl in
        allowed_by (Resume epoch) a test
        (record { remembers = record { began = a.remembers.began; quiet = a.remembers.quiet; stands = (a.remembers.stands.0, refl) }; falls = rw (same_so y.epoch g.epoch now) (omega arith) })

    -- of the one before: it goes on with an allocation, and forwards its registers
    module _ (before : y.epoch + 1 ≡ g.epoch) (stops : GoesOnPlacing g.epoch y.begun after) where
      late : nat_lt y.epoch g.epoch ≡ true
      late = lt-ltb y.epoch g.epoch (omega (arith, before))

      forwards_falls : (o : Option Pointed) → Lowers c.pages (saves c) (table c) (table c) x (at_stage x (forwards_it x after o))
      forwards_falls (Some r) = record { remembers = record { began = a.remembers.began; quiet = a.remembers.quiet; stands = (stops, tt) }; falls = rw late (omega arith) }
      forwards_falls None = record { remembers = record { began = a.remembers.began; quiet = a.remembers.quiet; stands = (stops, tt) }; falls = rw late (omega arith) }

      forwards : StepsLower c x
      forwards =
          let other : g.epoch ≢ epoch = (λ same. let own = a.is.fits.stage.passage in omega (arith, same, own, before)) in
          let test : allows (Resume epoch) g ≡ false = and_false (is_clear g) (g.epoch == epoch) (ne_eqb g.epoch epoch other) in
          let Stops : Option GateWord → Type 0 = (λ o. Lowers c.pages (saves c) (table c) (table c) x (at_stage x (cond (nat_lt y.epoch (epoch_in_gate y.epoch o)) (forwards_it x after (first_pointer y.registers 8 0)) (passes x (Resume y.epoch) after)))) in
          let falls : Stops (Some g) = rw late (forwards_falls (first_pointer y.registers 8 0)) in
          loads_by (Resume epoch) a (rw test (subst Stops (sym (gate_says c p s)) falls))

    resumes_late : y.epoch + 1 ≡ g.epoch → StepsLower c x
    resumes_late before = ⊎_elim
        (λ (stops : GoesOnPlacing g.epoch y.begun after). forwards before stops)
        (λ (looks : GoesOnLooking g.epoch y.epoch after). absurd (let now = looks.present in omega (arith, now, before)))
        a.remembers.stands.0

    resume_loads : StepsLower c x
    resume_loads = ⊎_elim resumes_now resumes_late ((knowing c p s x a).timely.live refl)

  -- ---- the exchange

  -- the gate that was read is the gate
  own : (passage : Passage) → (IsAlone c (at passage (Exchanges g)) → StepsLower c (at passage (Exchanges g))) → (gate : GateWord) → IsAlone c (at passage (Exchanges gate)) → StepsLower c (at passage (Exchanges gate))
  own passage goes gate a = subst (λ (z : GateWord). IsAlone c (at passage (Exchanges z)) → StepsLower c (at passage (Exchanges z))) a.remembers.stands.1 goes a

  -- the table after it
  abbrev passed : Passage → Table
  passed passage = record (table c) { gate = gate_after passage g }

  won_by : (passage : Passage) (a : IsAlone c (at passage (Exchanges g))) → GateFits (gate_after passage g) → Lowers c.pages (saves c) (table c) (passed passage) (at passage (Exchanges g)) (turned (at passage (Exchanges g)) Won)
      → StepsLower c (at passage (Exchanges g))
  won_by passage a fits falls =
      wants c p s (at passage (Exchanges g)) (Exchange (place_of c.pages Gate) (encode_gate g) (encode_gate (gate_after passage g)))
      (ap (λ n. Some (Exchange (place_of n Gate) (encode_gate g) (encode_gate (gate_after passage g)))) (ap (λ (m : Layout). m.pages) a.is.fits.stage.layout ∙ a.is.fits.pages))
      (exchanges c p s (at passage (Exchanges g)) (GateIs (gate_after passage g)) (encode_gate g) fits tt (spelled c.pages c.words s.formed).gate falls)

  module _ (a : IsAlone c (at Attach (Exchanges g))) (epoch : ℕ) where
    abbrev u : Held
    u = in_epoch (at Attach (Exchanges g)) epoch

    attached_by : (room : Bool) → Lowers c.pages (saves c) (table c) (passed Attach) (at Attach (Exchanges g)) (at_stage u (cond room (Recalls (recall.begun u.layout) afters.Looks) Looks))
    attached_by true = record { remembers = record { began = λ past. absurd past; quiet = a.remembers.quiet; stands = inr refl }; falls = omega arith }
    attached_by false = record { remembers = record { began = λ past. absurd past; quiet = a.remembers.quiet; stands = tt }; falls = omega arith }

    attached_falls : Lowers c.pages (saves c) (table c) (passed Attach) (at Attach (Exchanges g)) (at_stage u (runs_on u afters.Looks))
    attached_falls = attached_by y.layout.checkpoints

  attach_won : IsAlone c (at Attach (Exchanges g)) → StepsLower c (at Attach (Exchanges g))
  attach_won a =
      let may = a.is.fits.stage.sound.stage in
      won_by Attach a (record { epoch_fits = may.fits.epoch_fits; live_fits = may.counts.0; running_fits = may.counts.1; behind_fits = may.fits.behind_fits; left_fits = may.fits.left_fits })
      (attached_falls a (epoch_said y.epoch (encode_gate (gate_after Attach g))))

  -- it flips, or begins a checkpoint
  module _ (a : IsAlone c (at Request (Exchanges g))) where
    abbrev q : Held
    q = at Request (Exchanges g)

    requested_by : (goes : After) → after ≡ goes → MayRequest y goes → Lowers c.pages (saves c) (table c) (passed Request) q (at_stage q (after_request q goes))
    requested_by afters.Looks is may = absurd may
    requested_by afters.Places is may =
        record { remembers = record { began = λ past. a.remembers.began (subst IsPastAfter (sym is) tt); quiet = a.remembers.quiet; stands = tt }; falls = rw is (omega arith) }
    requested_by afters.Snaps is may =
        record { remembers = record { began = λ past. a.remembers.began (subst IsPastAfter (sym is) tt); quiet = a.remembers.quiet; stands = tt }; falls = rw is (omega arith) }

    request_won : StepsLower c q
    request_won =
        let may = a.is.fits.stage.sound.stage in
        let counted = may.fits.running_fits in
        won_by Request a (record { epoch_fits = may.fits.epoch_fits; live_fits = may.fits.live_fits; running_fits = omega (arith, counted); behind_fits = may.fits.behind_fits; left_fits = may.fits.left_fits })
        (requested_by after refl a.is.fits.stage.passage)

  -- it runs
  module _ (epoch : ℕ) (a : IsAlone c (at (Resume epoch) (Exchanges g))) where
    abbrev r : Held
    r = at (Resume epoch) (Exchanges g)

    now : y.epoch ≡ g.epoch
    now = sym ((resumes_so g epoch a.is.fits.stage.sound.stage.allowed).2 ∙ a.is.fits.stage.passage)

    -- with its allocation
    module _ (stops : GoesOnPlacing g.epoch y.begun after) where
      flips : flip_left c.pages (size_in (table c)) r ≡ growing_left c.pages (size_in (table c))
      flips =
          let seen : nat_lt y.begun y.epoch ≡ true = lt-ltb y.begun y.epoch (let e = stops.earlier in omega (arith, e, now)) in
          let none : flips_left c.pages (size_in (table c)) r ≡ growths c.pages (size_in (table c)) = rw seen (omega arith) in
          ap (flips_cost c.pages) none

      placing_by : (room : Bool) → IsMaking y.account y.registers y.task
          → GoesAt c.pages (saves c) (passed (Resume epoch)) (at_stage r (cond room (Recalls (recall.begun r.layout) afters.Places) (goes_on r afters.Places))) (recall_cost + longest_placing + growing_left c.pages (size_in (table c)) + due_in c.pages (table c))
      placing_by true making = record {
        remembers = record { began = λ past. (let e = stops.earlier in omega (arith, e, now)); quiet = a.remembers.quiet; stands = inl (record { places = refl; earlier = stops.earlier }) };
        within = omega arith;
      }
      placing_by false making =
          let goes = goes_placing c.pages (saves c) (passed (Resume epoch)) r a.is.fits.pages (let e = stops.earlier in omega (arith, e, now)) a.remembers.quiet making in
          let within = goes.within in
          record { remembers = goes.remembers; within = omega (arith, within, flips) }

    -- at a look
    looking_by : (room : Bool) → GoesAt c.pages (saves c) (passed (Resume epoch)) (at_stage r (cond room (Recalls (recall.begun r.layout) afters.Looks) Looks)) (recall_cost + whole_cost c.pages + due_in c.pages (table c))
    looking_by true = record { remembers = record { began = λ past. absurd past; quiet = a.remembers.quiet; stands = inr refl }; within = omega arith }
    looking_by false = record { remembers = record { began = λ past. absurd past; quiet = a.remembers.quiet; stands = tt }; within = omega arith }

    -- it costs what it said
    abbrev Runs : After → Type 0
    Runs goes = GoesAt c.pages (saves c) (passed (Resume epoch)) (at_stage r (runs_on r goes)) (recall_cost + after_left c.pages (growing_left c.pages (size_in (table c))) (due_in c.pages (table c)) goes)

    places_so : (stops : GoesOnPlacing g.epoch y.begun after) → Runs afters.Places
    places_so stops =
        let goes = placing_by stops y.layout.checkpoints (subst (FitsTaskAfter r) stops.places a.is.fits.task) in
        let within = goes.within in
        record { remembers = goes.remembers; within = omega (arith, within) }

    looks_so : Runs afters.Looks
    looks_so =
        let goes = looking_by y.layout.checkpoints in
        let within = goes.within in
        record { remembers = goes.remembers; within = omega (arith, within) }

    runs_so : Runs after
    runs_so = ⊎_elim
        (λ (stops : GoesOnPlacing g.epoch y.begun after). subst Runs (sym stops.places) (places_so stops))
        (λ (looks : GoesOnLooking g.epoch y.epoch after). subst Runs (sym looks.looks) looks_so)
        a.remembers.stands.0

    resume_won : StepsLower c r
    resume_won =
        let may = a.is.fits.stage.sound.stage in
        let cost = recall_cost + after_left c.pages (growing_left c.pages (size_in (table c))) (due_in c.pages (table c)) after in
        won_by (Resume epoch) a (record { epoch_fits = may.fits.epoch_fits; live_fits = may.fits.live_fits; running_fits = may.counts; behind_fits = may.fits.behind_fits; left_fits = may.fits.left_fits })
        (record {
          remembers = runs_so.remembers;
          falls = lt_by (potential_in c.pages (passed (Resume epoch)) (at_stage r (runs_on r after))) (potential_in c.pages (table c) r) cost runs_so.within (rw (same_so y.epoch g.epoch now) (omega arith));
        })

  module _ (a : IsAlone c (at Forwarded (Exchanges g))) where
    abbrev f : Held
    f = at Forwarded (Exchanges g)

    abbrev Comes : ℕ → Type 0
    Comes e = Lowers c.pages (saves c) (table c) (passed Forwarded) f (at_stage (in_epoch f e) (passes f (Resume e) after))

    forwarded_falls : Comes g.epoch
    forwarded_falls =
        let stops = a.remembers.stands.0 in
        record {
          remembers = record { began = λ past. (let e = stops.earlier in omega (arith, e)); quiet = a.remembers.quiet; stands = (inl stops, tt) };
          falls = rw (same_so g.epoch g.epoch refl, stops.places) (omega arith);
        }

    forwarded_won : StepsLower c f
    forwarded_won =
        let may = a.is.fits.stage.sound.stage in
        let behind = may.fits.behind_fits in
        let fits : GateFits (gate_after Forwarded g) = record { epoch_fits = may.fits.epoch_fits; live_fits = may.fits.live_fits; running_fits = may.fits.running_fits; behind_fits = omega (arith, behind); left_fits = may.fits.left_fits } in
        let said : epoch_in_gate y.epoch (decode_gate (encode_gate (gate_after Forwarded g))) ≡ g.epoch = ap (epoch_in_gate y.epoch) (decode_gate-encode_gate (gate_after Forwarded g) fits) in
        won_by Forwarded a fits (subst Comes (sym said) forwarded_falls)

  -- who has begun a checkpoint is stopped in the gate's epoch, and resumes
  module _ (a : IsAlone c (at Clear (Exchanges g))) where
    abbrev b : Held
    b = at Clear (Exchanges g)

    present : y.epoch ≡ g.epoch
    present = (knowing c p s b a).timely.asking refl

    cleared_falls : Lowers c.pages (saves c) (table c) (passed Clear) b (at_stage b (passes b (Resume y.epoch) after))
    cleared_falls =
        let looks = a.is.fits.task.1 in
        record {
          remembers = record { began = a.remembers.began; quiet = a.remembers.quiet; stands = (inr (record { looks = looks; present = present }), tt) };
          falls = rw (same_so y.epoch g.epoch present, looks) (omega arith);
        }

    clear_won : StepsLower c b
    clear_won =
        let may = a.is.fits.stage.sound.stage in
        won_by Clear a (record { epoch_fits = may.fits.epoch_fits; live_fits = may.fits.live_fits; running_fits = may.fits.running_fits; behind_fits = may.fits.behind_fits; left_fits = may.fits.left_fits })
        cleared_falls

  -- ---- each passage

  pub loads_gate : (passage : Passage) → IsAlone c (at passage Loads) → StepsLower c (at passage Loads)
  loads_gate Attach a = attach_loads a
  loads_gate Request a = request_loads a
  loads_gate (Resume epoch) a = resume_loads epoch a
  loads_gate Forwarded a = forwarded_loads a
  loads_gate Clear a = clear_loads a
  loads_gate _ a = absurd a.remembers.stands.0

  pub exchanges_gate : (passage : Passage) (gate : GateWord) → IsAlone c (at passage (Exchanges gate)) → StepsLower c (at passage (Exchanges gate))
  exchanges_gate Attach gate a = own Attach attach_won gate a
  exchanges_gate Request gate a = own Request request_won gate a
  exchanges_gate (Resume epoch) gate a = own (Resume epoch) (resume_won epoch) gate a
  exchanges_gate Forwarded gate a = own Forwarded forwarded_won gate a
  exchanges_gate Clear gate a = own Clear clear_won gate a
  exchanges_gate _ gate a = absurd a.remembers.stands.0
