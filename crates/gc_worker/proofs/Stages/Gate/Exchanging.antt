-- A passage of the gate is made by the exchange from the gate that was read.
use Rattle.std.proofs.Common.{◌≡◌, ℕ, ◌-◌, ◌^◌, ◌<◌, arith, Bool, true, Some, None, refl, ap, sym, subst, ◌∙◌, false, is_some, nat_lt}
use Rattle.std.specs.Prelude.{nat_lt}
use Rattle.plain_state.specs.State.{Plain}
use Rattle.atom_store.specs.declared.step.Step.TheVariants.{Exchange}
use Rattle.atom_store.specs.declared.reply.Reply.TheVariants.{Won, Lost}
use Rattle.space_map.specs.declared.gate_word.GateWord.{GateWord}
use Rattle.space_map.specs.GateWord.{GateFits, encode_gate}
use Rattle.space_map.specs.Spaces.{Layout}
use Rattle.space_map.specs.Table.{Gate, place_of}
use Rattle.space_map.proofs.GateWords.{decode_gate-encode_gate}
use Rattle.gate_core.specs.declared.gate_stage.GateStage.{GateStage}
use Rattle.gate_core.specs.declared.gate_stage.GateStage.TheVariants.{Loads, Exchanges}
use Rattle.gate_core.specs.declared.passage.Passage.{Passage}
use Rattle.gate_core.specs.declared.passage.Passage.TheVariants.{Look, Attach, Park, Request, Resume, Forwarded, Leave, Clear}
use Rattle.gate_core.specs.Gate.{gate_after}
use Rattle.heap_state.specs.Configuration.{Configuration, Stands, table, era, memory, team}
use Rattle.heap_state.specs.Memory.Entries.{GateIs}
use Rattle.heap_state.specs.Known.{Known, is_mutator}
use Rattle.heap_state.specs.Known as workers
use Rattle.heap_laws.specs.Gate as laws
use Rattle.heap_laws.proofs.Gate.Passages.{passes_gate}
use Rattle.heap_laws.proofs.Steps.Forgotten.{reads_are_forgotten}
use Rattle.gc_worker.specs.declared.stage.after.After.{After}
use Rattle.gc_worker.specs.declared.stage.after.After.TheVariants as afters
use Rattle.gc_worker.specs.declared.stage.Stage.TheVariants.{Passes, Looks, Gone}
use Rattle.gc_worker.specs.Workers.Fits.{Fits, FitsTaskAfter, IsGoneBy}
use Rattle.gc_worker.specs.Steps.Goes.{Is, Goes, StepsSo}
use Rattle.gc_worker.specs.Workers.Held.{Held, at_stage, pages_needed}
use Rattle.gc_worker.specs.Workers.Knows.{knows, known_at, post_gone}
use Rattle.gc_worker.specs.Steps.Turned.{passes, runs_on, after_request, turned, in_epoch, epoch_said, epoch_in_gate}
use Rattle.gc_worker.proofs.Workers.KeptParts.{refit, come, before_passage, page_count, before_snap}
use Rattle.gc_worker.proofs.Workers.ResumedMutators.{runs_on_known, runs_on_fits}
use Rattle.gc_worker.proofs.Stages.Gate.GateWords.{wants, gate_now, gate_is}
use Rattle.gc_worker.proofs.Words.RowSteps.{Law, becomes, exchanges, less, prepared}

less_fits : (n : ℕ) → n < 2 ^ 8 → n - 1 < 2 ^ 8
less_fits n l = omega (arith, l)

module _ (c : Configuration) (p : Plain) (s : Stands c p) (k : ℕ) (y : Held) (l : Layout) (gate : GateWord) (after : After) where
  abbrev at : Passage → GateStage → Held
  at passage stage = at_stage y (Passes (record { layout = l; passage = passage; stage = stage }) after)

  module _ (passage : Passage) (is : Is c k (at passage (Exchanges gate))) where
    abbrev x : Held
    x = at passage (Exchanges gate)

    -- an exchange that is lost: the gate is loaded again
    loses : knows (at passage Loads) ≡ record (knows x) { gate_step = None; reset = None } → Goes c p s k None x (Lost (gate_now c))
    loses same =
        becomes c p s k x None (Lost (gate_now c)) (at passage Loads) s.ghost refl is.below
        (less c p s k x is (knows (at passage Loads)) (rw same (reads_are_forgotten (knows x) refl))) refl refl
        (record { pages = is.fits.stage.sound.pages; stage = tt })
        (refit c.pages c.mutators k x is.fits (Passes (record { layout = l; passage = passage; stage = Loads }) after) is.fits.end is.fits.side is.fits.task
        (record { layout = is.fits.stage.layout; passage = is.fits.stage.passage; going = tt; sound = record { pages = is.fits.stage.sound.pages; stage = tt } }))

    -- one that is won
    module _ (q : workers.Passage) (stands : (knows x).gate_step ≡ Some (record { read = gate; passage = q })) (same : gate_after passage gate ≡ laws.gate_after q gate) where
      passed : (table c).gate ≡ gate → Law c p s k x (Some (GateIs (gate_after passage gate))) (laws.worker_after gate.epoch q (knows x)) s.ghost
      passed now =
          rw same (subst (λ (w : Known). Law c p s k x (Some (GateIs (laws.gate_after q gate))) (laws.worker_after gate.epoch q w) s.ghost) is.as_known
          (passes_gate (era c) (memory c) (team c) s.ghost k (record { read = gate; passage = q }) (prepared c p s k x is) (ap (λ (w : Known). w.pass) is.as_known)
          (record { step = ap (λ (w : Known). w.gate_step) is.as_known ∙ stands; unchanged = now })))

      wins : (z : Held) → turned x Won ≡ z → laws.worker_after gate.epoch q (knows x) ≡ knows z → Fits c.pages c.mutators k z
          → gate_now c ≡ encode_gate gate → Goes c p s k (Some (GateIs (gate_after passage gate))) x Won
      wins z turns known fits at_gate =
          becomes c p s k x (Some (GateIs (gate_after passage gate))) Won z s.ghost turns is.below
          (subst (λ (w : Known). Law c p s k x (Some (GateIs (gate_after passage gate))) w s.ghost) known (passed (gate_is c gate is.fits.stage.sound.stage.fits at_gate))) refl refl
          (record { pages = is.fits.stage.sound.pages; stage = tt }) fits

    exchanges_it : (gate_now c ≡ encode_gate gate → Goes c p s k (Some (GateIs (gate_after passage gate))) x Won) → Goes c p s k None x (Lost (gate_now c)) → StepsSo c p s k x
    exchanges_it won lost =
        wants c p s k x (Exchange (place_of c.pages Gate) (encode_gate gate) (encode_gate (gate_after passage gate)))
        (ap (λ n. Some (Exchange (place_of n Gate) (encode_gate gate) (encode_gate (gate_after passage gate)))) (ap (λ (m : Layout). m.pages) is.fits.stage.layout ∙ is.fits.pages))
        (exchanges c p s k x (GateIs (gate_after passage gate)) (encode_gate gate) tt won (λ other. lost))

  -- ---- each passage

  -- the gate's epoch after a passage
  said : (g : GateWord) → GateFits g → (own : ℕ) → epoch_said own (encode_gate g) ≡ g.epoch
  said g fits own = ap (epoch_in_gate own) (decode_gate-encode_gate g fits)

  attaches : (is : Is c k (at Attach (Exchanges gate))) → StepsSo c p s k (at Attach (Exchanges gate))
  attaches is =
      let x = at Attach (Exchanges gate) in
      let may = is.fits.stage.sound.stage in
      let fits : GateFits (gate_after Attach gate) = record { epoch_fits = may.fits.epoch_fits; live_fits = may.counts.0; running_fits = may.counts.1; behind_fits = may.fits.behind_fits; left_fits = may.fits.left_fits } in
      let z = at_stage (in_epoch x gate.epoch) Looks in
      let looks = come c.pages c.mutators k x is.fits gate.epoch may.fits.epoch_fits Looks is.fits.end is.fits.side is.fits.task tt in
      exchanges_it Attach is
      (wins Attach is workers.Enter refl refl (at_stage z (runs_on z afters.Looks)) (ap (λ (e : ℕ). let y = in_epoch x e in at_stage y (runs_on y afters.Looks)) (said (gate_after Attach gate) fits x.epoch))
      (sym (runs_on_known z afters.Looks)) (runs_on_fits c.pages c.mutators k z looks is.fits.end is.fits.side afters.Looks is.fits.task)) (loses Attach is refl)

  parks : (is : Is c k (at Park (Exchanges gate))) → StepsSo c p s k (at Park (Exchanges gate))
  parks is =
      let x = at Park (Exchanges gate) in
      exchanges_it Park is
      (wins Park is workers.Park refl refl (at_stage x (passes x (Resume x.epoch) after)) refl refl
      (before_passage c.pages c.mutators k x is.fits (Resume x.epoch) after is.fits.end is.fits.side is.fits.task refl)) (loses Park is refl)

  -- its exchange is won, and it flips, or begins a checkpoint
  module _ (q : workers.Passage) (is : Is c k (at Request (Exchanges gate))) (stands : (knows (at Request (Exchanges gate))).gate_step ≡ Some (record { read = gate; passage = q }))
      (same : gate_after Request gate ≡ laws.gate_after q gate) (known : laws.worker_after gate.epoch q (knows (at Request (Exchanges gate))) ≡ knows (at_stage (at Request (Exchanges gate)) (after_request y after)))
      (fits : Fits c.pages c.mutators k (at_stage (at Request (Exchanges gate)) (after_request y after))) where
    requests_it : StepsSo c p s k (at Request (Exchanges gate))
    requests_it = exchanges_it Request is (wins Request is q stands same (at_stage (at Request (Exchanges gate)) (after_request y after)) refl known fits) (loses Request is refl)

  resumes : (epoch : ℕ) (is : Is c k (at (Resume epoch) (Exchanges gate))) → StepsSo c p s k (at (Resume epoch) (Exchanges gate))
  resumes epoch is =
      let x = at (Resume epoch) (Exchanges gate) in
      exchanges_it (Resume epoch) is
      (wins (Resume epoch) is workers.Resume refl refl (at_stage x (runs_on x after)) refl (sym (runs_on_known x after))
      (runs_on_fits c.pages c.mutators k x is.fits is.fits.end is.fits.side after is.fits.task)) (loses (Resume epoch) is refl)

  forwards : (is : Is c k (at Forwarded (Exchanges gate))) → StepsSo c p s k (at Forwarded (Exchanges gate))
  forwards is =
      let x = at Forwarded (Exchanges gate) in
      let may = is.fits.stage.sound.stage in
      let fits : GateFits (gate_after Forwarded gate) = record { epoch_fits = may.fits.epoch_fits; live_fits = may.fits.live_fits; running_fits = may.fits.running_fits; behind_fits = less_fits gate.behind may.fits.behind_fits; left_fits = may.fits.left_fits } in
      let z = at_stage (in_epoch x gate.epoch) (passes x (Resume gate.epoch) after) in
      exchanges_it Forwarded is
      (wins Forwarded is workers.Forwarded refl refl z (ap (λ (e : ℕ). at_stage (in_epoch x e) (passes x (Resume e) after)) (said (gate_after Forwarded gate) fits x.epoch)) refl
      (come c.pages c.mutators k x is.fits gate.epoch may.fits.epoch_fits (passes x (Resume gate.epoch) after) is.fits.end is.fits.side is.fits.task
      (record { layout = refl; passage = refl; going = tt; sound = record { pages = page_count c.pages c.mutators k x is.fits; stage = tt } }))) (loses Forwarded is refl)

  -- who leaves is a mutator
  is_member : (is : Is c k (at Leave (Exchanges gate))) → nat_lt y.number y.mutators ≡ true
  is_member is =
      let e : is_mutator ((team c).worker k).post ≡ true = ap (λ (w : Known). is_mutator w.post) is.as_known in
      rw (is.fits.number, is.fits.beside) (sym (s.invariant.staffed.posts k is.below) ∙ e)

  gone : (b : Bool) → is_some y.account.end ≡ true → IsGoneBy b (is_some y.account.end)
  gone true ended = ended
  gone false ended = tt

  leaves : (is : Is c k (at Leave (Exchanges gate))) → StepsSo c p s k (at Leave (Exchanges gate))
  leaves is =
      let x = at Leave (Exchanges gate) in
      exchanges_it Leave is
      (wins Leave is workers.Leave refl refl (at_stage x Gone) refl (ap (λ (b : Bool). record (known_at x Gone) { post = post_gone b }) (sym (is_member is)))
      (refit c.pages c.mutators k x is.fits Gone tt (gone (nat_lt y.number y.mutators) is.fits.end) is.fits.task tt)) (loses Leave is refl)

  clears : (is : Is c k (at Clear (Exchanges gate))) → StepsSo c p s k (at Clear (Exchanges gate))
  clears is =
      let x = at Clear (Exchanges gate) in
      exchanges_it Clear is
      (wins Clear is workers.Clear refl refl (at_stage x (passes x (Resume x.epoch) after)) refl refl
      (before_passage c.pages c.mutators k x is.fits (Resume x.epoch) after is.fits.end is.fits.side (subst (FitsTaskAfter y) (sym is.fits.task.1) is.fits.task.0) refl)) (loses Clear is refl)

module _ (c : Configuration) (p : Plain) (s : Stands c p) (k : ℕ) (y : Held) (l : Layout) (gate : GateWord) where
  requests : (after : After) → Is c k (at c p s k y l gate after Request (Exchanges gate)) → StepsSo c p s k (at c p s k y l gate after Request (Exchanges gate))
  requests afters.Looks is = absurd is.fits.task
  requests afters.Places is =
      let x = at c p s k y l gate afters.Places Request (Exchanges gate) in
      requests_it c p s k y l gate afters.Places (workers.Request (pages_needed y)) is refl refl refl
      (refit c.pages c.mutators k x is.fits (after_request y afters.Places) is.fits.end is.fits.side (is.fits.task, refl)
      (record { layout = refl; epoch = refl; seen = refl; going = tt; sound = record { pages = page_count c.pages c.mutators k x is.fits; epoch = is.fits.stage.passage; stage = tt } }))
  requests afters.Snaps is =
      let x = at c p s k y l gate afters.Snaps Request (Exchanges gate) in
      requests_it c p s k y l gate afters.Snaps workers.RequestSnap is refl refl refl
      (before_snap c.pages c.mutators k x is.fits is.fits.end is.fits.side is.fits.task is.fits.stage.passage)

  module _ (after : After) where
    pub exchanges_gate : (passage : Passage) → Is c k (at c p s k y l gate after passage (Exchanges gate)) → StepsSo c p s k (at c p s k y l gate after passage (Exchanges gate))
    exchanges_gate Look is = absurd is.fits.stage.passage
    exchanges_gate Attach is = attaches c p s k y l gate after is
    exchanges_gate Park is = parks c p s k y l gate after is
    exchanges_gate Request is = requests after is
    exchanges_gate (Resume epoch) is = resumes c p s k y l gate after epoch is
    exchanges_gate Forwarded is = forwards c p s k y l gate after is
    exchanges_gate Leave is = leaves c p s k y l gate after is
    exchanges_gate Clear is = clears c p s k y l gate after is
