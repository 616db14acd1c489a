-- A round begins: it loads the gate and TRACED.
use Rattle.std.proofs.Common.{◌≡◌, ◌≢◌, ℕ, ◌+◌, ◌≤◌, Bool, true, false, cond, nat_eq, Option, Some, None, refl, sym, ap, subst, ◌∙◌, arith}
use Rattle.std.proofs.lemmas.Bool.{eqb-true, eqb-false}
use Rattle.std.specs.Prelude.{nat_lt}
use Rattle.plain_state.specs.State.{Plain}
use Rattle.atom_store.specs.declared.reply.Reply.TheVariants.{Value}
use Rattle.space_map.specs.declared.gate_word.GateWord.{GateWord}
use Rattle.space_map.specs.Table.{Gate, Traced}
use Rattle.fault_duty.specs.declared.caller.Caller.{Caller}
use Rattle.fault_duty.specs.declared.caller.Caller.TheVariants.{Faulted, Allocates, Scans}
use Rattle.fault_duty.specs.declared.findings.Findings.{Findings}
use Rattle.fault_duty.specs.declared.duty_stage.DutyStage.TheVariants.{LoadsGate, LoadsTraced, LoadsWanted, LoadsFront, Ended}
use Rattle.fault_duty.specs.declared.round_end.RoundEnd.TheVariants as round_end
use Rattle.fault_duty.specs.declared.round_end.RoundEnd.TheVariants.{AllLeft, NothingNow}
use Rattle.fault_duty.specs.Duty as duty
use Rattle.fault_duty.specs.Duty.{Round}
use Rattle.fault_duty.specs.Soundness as duty_sound
use Rattle.fault_duty.specs.Soundness.{IsSoundRound, IsHindrance, BehindGate}
use Rattle.heap_state.specs.Configuration.{Configuration, Stands, table, era, memory, team}
use Rattle.heap_state.specs.Known.{Known, is_mutator}
use Rattle.heap_laws.specs.Gate as gate_laws
use Rattle.heap_laws.specs.Tracing.{in_round}
use Rattle.heap_laws.proofs.Gate.Scanner.{takes_epoch_of_gate}
use Rattle.heap_laws.proofs.Tracing.TracingLoads.{reads_traced}
use Rattle.gc_worker.specs.declared.stage.back.Back.{Back}
use Rattle.gc_worker.specs.declared.stage.back.Back.TheVariants.{ToAccess, ToTarget, ToPlace, ToSnap, ToScanner}
use Rattle.gc_worker.specs.declared.stage.Stage.TheVariants.{Serves, Gone}
use Rattle.gc_worker.specs.Steps.Goes.{Is, Goes, StepsSo}
use Rattle.gc_worker.specs.Workers.Held.{Held, at_stage}
use Rattle.gc_worker.specs.Workers.Knows.{knows, own_stock, post_gone}
use Rattle.gc_worker.specs.Steps.Turned.{turned_round, told_round}
use Rattle.gc_worker.proofs.Workers.KeptParts.{refit}
use Rattle.gc_worker.proofs.Stages.Gate.GateWords.{gate_now, gate_says}
use Rattle.gc_worker.proofs.Stages.Rounds.NextRoundStage.{round, at, sound_at, goes_on, ends, loads_it}
use Rattle.gc_worker.proofs.Stages.Rounds.TracedRounds.{finds_traced}
use Rattle.gc_worker.proofs.Stages.Rounds.RoundWords.{traced_now, traced_word}
use Rattle.gc_worker.proofs.Words.RowSteps.{Law, becomes, nothing, prepared}

module _ (c : Configuration) (p : Plain) (s : Stands c p) (k : ℕ) (y : Held) where
  abbrev gate : GateWord
  gate = (table c).gate

  -- a gate with a mutator behind forbids to end the tracing
  hinders : (epoch : ℕ) (b : Bool) → nat_eq gate.behind 0 ≡ b → IsHindrance epoch (cond b None (Some (gate_now c)))
  hinders epoch true test = tt
  hinders epoch false test = BehindGate gate (gate_says c p s) (eqb-false gate.behind 0 test)

  -- ---- the gate, for a mutator

  module _ (d : Round) (back : Back) (of_epoch : d.epoch ≡ y.epoch) (is : Is c k (at c p s k y d back LoadsGate)) where
    abbrev here : Held
    here = at c p s k y d back LoadsGate

    same_knowledge : knows here ≡ knows (at c p s k y d back (LoadsTraced (duty.hindrance_in (gate_now c) gate)))
    same_knowledge = λ i. record (knows here) { epoch = sym of_epoch i }

    mutator_by : (b : Bool) → nat_eq gate.epoch d.epoch ≡ b
        → duty.taken_at (round c p s k y d back LoadsGate) LoadsGate (Value (gate_now c))
        ≡ round c p s k y d back (cond b (LoadsTraced (duty.hindrance_in (gate_now c) gate)) (Ended (NothingNow (gate_now c))))
        → Goes c p s k None here (Value (gate_now c))
    mutator_by true test taken =
        goes_on c p s k y d back LoadsGate is None (Value (gate_now c)) (LoadsTraced (duty.hindrance_in (gate_now c) gate)) s.ghost taken refl refl
        (hinders d.epoch (nat_eq gate.behind 0) refl) (nothing c p s k here is (knows (at c p s k y d back (LoadsTraced (duty.hindrance_in (gate_now c) gate)))) same_knowledge)
    mutator_by false test taken = ends c p s k y d back LoadsGate is (Value (gate_now c)) (gate_now c) taken refl refl (sym of_epoch)

    mutator : duty.taken_at (round c p s k y d back LoadsGate) LoadsGate (Value (gate_now c))
        ≡ duty.mutator_at_gate (round c p s k y d back LoadsGate) (gate_now c) gate → Goes c p s k None here (Value (gate_now c))
    mutator taken = mutator_by (nat_eq gate.epoch d.epoch) refl taken

  -- ---- for a scanner

  module _ (e : Round) (mutators : ℕ) (is : Is c k (at c p s k y (record e { caller = Scans mutators }) ToScanner LoadsGate)) where
    abbrev d : Round
    d = record e { caller = Scans mutators }

    abbrev scanner : Held
    scanner = at c p s k y d ToScanner LoadsGate

    abbrev with_gate : Round
    with_gate = record d { epoch = gate.epoch; stage = LoadsTraced (duty.hindrance_in (gate_now c) gate) }

    abbrev taking : Held
    taking = at_stage scanner (Serves with_gate ToScanner)

    no_run : y.run ≡ None
    no_run = is.fits.stage.1

    no_mutator : nat_lt y.number y.mutators ≡ false
    no_mutator =
        let posts = s.invariant.staffed.posts k is.below in
        let here_is : is_mutator ((team c).worker k).post ≡ false = ap (λ (w : Known). is_mutator w.post) is.as_known in
        ap (λ n. nat_lt n y.mutators) is.fits.number ∙ ap (nat_lt k) is.fits.beside ∙ sym posts ∙ here_is

    -- all mutators have left
    gone : duty.taken_at (round c p s k y d ToScanner LoadsGate) LoadsGate (Value (gate_now c)) ≡ round c p s k y d ToScanner (Ended (AllLeft (gate_now c)))
        → Goes c p s k None scanner (Value (gate_now c))
    gone taken = becomes c p s k scanner None (Value (gate_now c)) (at_stage scanner Gone) s.ghost
        (ap (λ (r : Round). turned_round scanner r ToScanner (duty.told r)) taken) is.below
        (nothing c p s k scanner is (knows (at_stage scanner Gone)) (λ i. record (knows scanner) { post = ap post_gone (sym no_mutator) i })) (ap (λ (r : Round). told_round (duty.told r)) taken) refl
        (subst IsSoundRound (sym taken) (sound_at c p s k y d ToScanner LoadsGate is (Ended (AllLeft (gate_now c))) tt))
        (refit c.pages c.mutators k scanner is.fits Gone tt (rw is.fits.side tt) is.fits.task tt)

    -- it takes the epoch
    knows_taking : gate_laws.into_epoch (knows scanner) gate.epoch ≡ knows taking
    knows_taking = λ i. record (knows taking) { stock = ap (own_stock y.epoch) (sym no_run) i }

    sound_taking : IsSoundRound with_gate
    sound_taking =
        let own = is.fits.stage.0.sound in
        record { pages = own.pages; caller = tt; epoch = s.invariant.counted.epoch_fits; worker = own.worker; stage = hinders gate.epoch (nat_eq gate.behind 0) refl }

    takes : duty.taken_at (round c p s k y d ToScanner LoadsGate) LoadsGate (Value (gate_now c)) ≡ with_gate → Goes c p s k None scanner (Value (gate_now c))
    takes taken = becomes c p s k scanner None (Value (gate_now c)) taking s.ghost
        (ap (λ (r : Round). turned_round scanner r ToScanner (duty.told r)) taken) is.below
        (subst (λ (w : Known). Law c p s k scanner None w s.ghost) (ap (λ (w : Known). gate_laws.into_epoch w gate.epoch) is.as_known ∙ knows_taking)
        (takes_epoch_of_gate (era c) (memory c) (team c) s.ghost k (prepared c p s k scanner is) (ap (λ (w : Known). w.post) is.as_known) (ap (λ (w : Known). w.scan) is.as_known) (ap (λ (w : Known). w.pass) is.as_known)))
        (ap (λ (r : Round). told_round (duty.told r)) taken) refl (subst IsSoundRound (sym taken) sound_taking)
        (refit c.pages c.mutators k scanner is.fits (Serves with_gate ToScanner) is.fits.end is.fits.side is.fits.task
        (record { layout = is.fits.stage.0.layout; worker = is.fits.stage.0.worker; caller = is.fits.stage.0.caller; epoch = tt; going = tt; sound = sound_taking }, no_run))

    scanner_by : (b : Bool) → duty.taken_at (round c p s k y d ToScanner LoadsGate) LoadsGate (Value (gate_now c))
        ≡ cond b (round c p s k y d ToScanner (Ended (AllLeft (gate_now c)))) with_gate → Goes c p s k None scanner (Value (gate_now c))
    scanner_by true taken = gone taken
    scanner_by false taken = takes taken

  -- ---- all

  gate_goes : (d : Round) (caller : Caller) (back : Back) → (is : Is c k (at c p s k y (record d { caller = caller }) back LoadsGate))
      → Goes c p s k None (at c p s k y (record d { caller = caller }) back LoadsGate) (Value (gate_now c))
  gate_goes d (Faulted page) (ToAccess a) is = mutator (record d { caller = Faulted page }) (ToAccess a) is.fits.stage.0.epoch is
      (ap (duty.looked_at_gate (round c p s k y (record d { caller = Faulted page }) (ToAccess a) LoadsGate) (gate_now c)) (gate_says c p s))
  gate_goes d (Faulted page) (ToTarget a) is = mutator (record d { caller = Faulted page }) (ToTarget a) is.fits.stage.0.epoch is
      (ap (duty.looked_at_gate (round c p s k y (record d { caller = Faulted page }) (ToTarget a) LoadsGate) (gate_now c)) (gate_says c p s))
  gate_goes d Allocates (ToTarget a) is = mutator (record d { caller = Allocates }) (ToTarget a) is.fits.stage.0.epoch is
      (ap (duty.looked_at_gate (round c p s k y (record d { caller = Allocates }) (ToTarget a) LoadsGate) (gate_now c)) (gate_says c p s))
  gate_goes d Allocates ToPlace is = mutator (record d { caller = Allocates }) ToPlace is.fits.stage.0.epoch is
      (ap (duty.looked_at_gate (round c p s k y (record d { caller = Allocates }) ToPlace LoadsGate) (gate_now c)) (gate_says c p s))
  gate_goes d Allocates ToSnap is = mutator (record d { caller = Allocates }) ToSnap is.fits.stage.0.epoch is
      (ap (duty.looked_at_gate (round c p s k y (record d { caller = Allocates }) ToSnap LoadsGate) (gate_now c)) (gate_says c p s))
  gate_goes d (Scans mutators) ToScanner is = scanner_by d mutators is (nat_eq gate.left mutators)
      (ap (duty.looked_at_gate (round c p s k y (record d { caller = Scans mutators }) ToScanner LoadsGate) (gate_now c)) (gate_says c p s))
  gate_goes d _ _ is = absurd is.fits.stage.0.caller

  pub loads_gate : (d : Round) (back : Back) → Is c k (at c p s k y d back LoadsGate) → StepsSo c p s k (at c p s k y d back LoadsGate)
  loads_gate d back is = loads_it c p s k y d back LoadsGate is Gate tt refl (gate_goes d d.caller back is)

  -- ---- TRACED

  module _ (d : Round) (back : Back) (hindrance : Option ℕ) (is : Is c k (at c p s k y d back (LoadsTraced hindrance))) where
    abbrev found : Findings
    found = record { traced = traced_now c; hindrance = hindrance }

    abbrev before : Held
    before = at c p s k y d back (LoadsTraced hindrance)

    -- the worker is in a round
    in_it : traced_now c ≢ d.epoch + 1 → Law c p s k before None (in_round (knows before) (record { traced = traced_now c; front = None })) s.ghost
    in_it other =
        subst (λ (w : Known). Law c p s k before None (in_round w (record { traced = traced_now c; front = None })) s.ghost) is.as_known
        (subst (λ t. Law c p s k before None (in_round ((team c).worker k) (record { traced = t; front = None })) s.ghost) (traced_word c)
        (reads_traced (era c) (memory c) (team c) s.ghost k (prepared c p s k before is)
        (λ e. other (sym (traced_word c) ∙ e ∙ ap (λ (w : Known). w.epoch + 1) is.as_known))))

    fits_found : traced_now c ≢ d.epoch + 1 → duty_sound.FitsFindings d.epoch found
    fits_found other = record { untraced = (no_earlier, other); hindrance = is.fits.stage.0.sound.stage }
      where
        no_earlier : d.epoch ≤ traced_now c
        no_earlier =
            let a = s.invariant.tracing.bottom in
            let b = (s.invariant.workers k is.below).timely.past in
            let e : ((team c).worker k).epoch ≡ d.epoch = ap (λ (w : Known). w.epoch) is.as_known in
            let t = traced_word c in
            omega (arith, a, b, e, t)

    first_by : (caller : Caller) → d.caller ≡ caller → traced_now c ≢ d.epoch + 1
        → duty.taken_at (round c p s k y d back (LoadsTraced hindrance)) (LoadsTraced hindrance) (Value (traced_now c)) ≡ round c p s k y d back (duty.first_look caller found)
        → Goes c p s k None before (Value (traced_now c))
    first_by (Faulted page) is_caller other taken =
        goes_on c p s k y d back (LoadsTraced hindrance) is None (Value (traced_now c)) (LoadsWanted found page) s.ghost taken refl refl (fits_found other, is_caller) (in_it other)
    first_by Allocates is_caller other taken =
        goes_on c p s k y d back (LoadsTraced hindrance) is None (Value (traced_now c)) (LoadsFront found) s.ghost taken refl refl (fits_found other) (in_it other)
    first_by (Scans mutators) is_caller other taken =
        goes_on c p s k y d back (LoadsTraced hindrance) is None (Value (traced_now c)) (LoadsFront found) s.ghost taken refl refl (fits_found other) (in_it other)

    traced_by : (b : Bool) → nat_eq (traced_now c) (d.epoch + 1) ≡ b
        → duty.taken_at (round c p s k y d back (LoadsTraced hindrance)) (LoadsTraced hindrance) (Value (traced_now c))
        ≡ round c p s k y d back (cond b (Ended round_end.Traced) (duty.first_look d.caller found)) → Goes c p s k None before (Value (traced_now c))
    traced_by true test taken = finds_traced c p s k y d (LoadsTraced hindrance) (Value (traced_now c)) taken refl refl refl back is (eqb-true (traced_now c) (d.epoch + 1) test)
    traced_by false test taken = first_by d.caller refl (eqb-false (traced_now c) (d.epoch + 1) test) taken

    pub loads_traced : StepsSo c p s k before
    loads_traced = loads_it c p s k y d back (LoadsTraced hindrance) is Traced tt refl (traced_by (nat_eq (traced_now c) (d.epoch + 1)) refl refl)
