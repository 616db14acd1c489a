-- A round goes on at another stage, or ends: what the worker is then, and what it knows.
use Rattle.std.proofs.Common.{◌≡◌, ℕ, Option, Some, None, refl, sym, ap, subst, ◌∙◌}
use Rattle.plain_state.specs.State.{Plain}
use Rattle.atom_store.specs.declared.reply.Reply.{Reply}
use Rattle.atom_store.specs.declared.turn.Turn.TheVariants.{More, Finished}
use Rattle.fault_duty.specs.declared.caller.Caller.{Caller}
use Rattle.fault_duty.specs.declared.caller.Caller.TheVariants as callers
use Rattle.fault_duty.specs.declared.duty_stage.DutyStage.{DutyStage}
use Rattle.fault_duty.specs.declared.duty_stage.DutyStage.TheVariants.{LoadsGate, Ended}
use Rattle.fault_duty.specs.declared.round_end.RoundEnd.{RoundEnd}
use Rattle.fault_duty.specs.declared.round_end.RoundEnd.TheVariants.{NothingNow, Marked}
use Rattle.fault_duty.specs.Duty as duty
use Rattle.fault_duty.specs.Duty.{Round}
use Rattle.fault_duty.specs.Soundness.{IsRoundGoing, IsSoundRound, FitsDutyStage}
use Rattle.heap_state.specs.Configuration.{Configuration, Stands, era, memory, team}
use Rattle.heap_state.specs.Memory.Entries.{Entry}
use Rattle.heap_state.specs.Invariant.Ghost.{Ghost}
use Rattle.heap_state.specs.Memory.Table.{word_in}
use Rattle.space_map.specs.Spaces.{Layout}
use Rattle.space_map.specs.Table.{Row, IsRow, place_of}
use Rattle.atom_store.specs.declared.step.Step.TheVariants.{Load}
use Rattle.atom_store.specs.declared.reply.Reply.TheVariants.{Value}
use Rattle.heap_state.specs.Known.{Known}
use Rattle.heap_laws.specs.Composing.{ends_round}
use Rattle.heap_laws.proofs.Steps.Composites.{rounds_end}
use Rattle.gc_worker.specs.declared.stage.back.Back.{Back}
use Rattle.gc_worker.specs.declared.stage.back.Back.TheVariants.{ToAccess, ToTarget, ToPlace, ToSnap, ToScanner}
use Rattle.gc_worker.specs.declared.stage.Stage.TheVariants.{Serves}
use Rattle.gc_worker.specs.Workers.Fits.{Fits, FitsBack, IsCallerOf, IsEpochOf}
use Rattle.gc_worker.specs.Steps.Goes.{Is, Goes, StepsSo, TracesEpoch}
use Rattle.gc_worker.specs.Workers.Held.{Held, header_for}
use Rattle.gc_worker.specs.Workers.Knows.{knows, own_stock, epoch_at, pass_at}
use Rattle.gc_worker.specs.Steps.Turned.{turned_round, back_from, won_in, told_round, Silent}
use Rattle.gc_worker.proofs.Workers.KeptParts.{with_parts, refit}
use Rattle.gc_worker.proofs.Workers.ResumedMutators.{places_known}
use Rattle.gc_worker.proofs.Workers.GoingBack.{back_fits}
use Rattle.gc_worker.proofs.Words.RowSteps.{Law, becomes, loads, prepared, traces_so}
use Rattle.gc_worker.proofs.Stages.Gate.GateWords.{wants}

-- a round that has more to do goes on
going_on : (stage : DutyStage) → duty.told_at stage ≡ More → IsRoundGoing stage
going_on (Ended result) more = absurd (cc)
going_on _ more = tt

-- a worker whose round ends, and that doesn't walk over the chain of copied cells any more
abbrev pub rests : Known → Known
rests w = record (ends_round w) { pass = None }

module _ (c : Configuration) (p : Plain) (s : Stands c p) (k : ℕ) (y : Held) (d : Round) (back : Back) where
  -- the round at a stage, and the worker that makes it
  abbrev pub round : DutyStage → Round
  round stage = record d { stage = stage }

  abbrev pub at : DutyStage → Held
  at stage = record y { stage = Serves (round stage) back }

  -- the worker whose round has ended
  abbrev pub done : Held
  done = record (at LoadsGate) { epoch = d.epoch }

  module _ (stage : DutyStage) (is : Is c k (at stage)) where
    abbrev x : Held
    x = at stage

    -- what the machine keeps of itself at another stage
    pub sound_at : (next : DutyStage) → FitsDutyStage (round next) next → IsSoundRound (round next)
    sound_at next fits =
        let own = is.fits.stage.0.sound in record { pages = own.pages; caller = own.caller; epoch = own.epoch; worker = own.worker; stage = fits }

    pub fits_at : (next : DutyStage) → IsRoundGoing next → FitsDutyStage (round next) next → Fits c.pages c.mutators k (at next)
    fits_at next going fits =
        let own = is.fits.stage.0 in
        refit c.pages c.mutators k x is.fits (Serves (round next) back) is.fits.end is.fits.side is.fits.task
        (record { layout = own.layout; worker = own.worker; caller = own.caller; epoch = own.epoch; going = going; sound = sound_at next fits }, is.fits.stage.1)

    -- it goes on at the next stage, and writes a row or none
    pub goes_on : (e : Option Entry) (reply : Reply) (next : DutyStage) (h : Ghost) → duty.taken_at (round stage) stage reply ≡ round next → duty.told_at next ≡ More
        → won_in stage reply ≡ None → FitsDutyStage (round next) next → Law c p s k x e (knows (at next)) h → Goes c p s k e x reply
    goes_on e reply next h taken more none fits law = becomes c p s k x e reply (at next) h
        (ap (λ (r : Round). turned_round x r back (duty.told r)) taken ∙ ap (turned_round x (round next) back) more)
        is.below law (ap (λ (r : Round). told_round (duty.told r)) taken ∙ ap told_round more) none (subst IsSoundRound (sym taken) (sound_at next fits)) (fits_at next (going_on next more) fits)

    -- a round of a mutator is of its own epoch, and a scanner has no run
    abbrev SameStock : Type 0
    SameStock = own_stock d.epoch y.run ≡ own_stock y.epoch y.run

    same_stock : (b : Back) → IsEpochOf x b d.epoch → FitsBack x b → SameStock
    same_stock ToScanner of_epoch own = ap (own_stock d.epoch) own ∙ sym (ap (own_stock y.epoch) own)
    same_stock _ of_epoch own = ap (λ e. own_stock e y.run) of_epoch

    -- who ends its round knows what it knew but for that
    module _ (own : epoch_at y.epoch (round stage) stage ≡ d.epoch) (same : SameStock) where
      abbrev knew : Back → Known
      knew b = rests (knows (record y { stage = Serves (round stage) b }))

      -- with the round's epoch
      abbrev with_epoch : Back → Known
      with_epoch b = record (knew b) { epoch = d.epoch; stock = own_stock d.epoch y.run }

      same_worker : (b : Back) → with_epoch b ≡ knew b
      same_worker b = λ i. record (knew b) { epoch = sym own i; stock = same i }

      abbrev done_with : Back → Held
      done_with b = record y { epoch = d.epoch; stage = Serves (round LoadsGate) b }

      knows_back : (b : Back) → FitsBack x b → knows (back_from (done_with b) b) ≡ with_epoch b
      knows_back (ToAccess a) fits = λ i. record (with_epoch (ToAccess a)) { traced_seen = fits.2 i }
      knows_back ToPlace fits = places_known (done_with ToPlace) (header_for (done_with ToPlace))
      knows_back _ fits = refl

      pub ended_known : knows (back_from done back) ≡ rests (knows x)
      ended_known = knows_back back is.fits.stage.1 ∙ same_worker back

    -- what it keeps of itself is of the round's epoch too
    caller_done : (b : Back) (caller : Caller) (e : ℕ) → IsEpochOf x b e → IsCallerOf x b caller → IsCallerOf (record x { epoch = e }) b caller
    caller_done (ToAccess a) caller e of_epoch own = subst (λ z. IsCallerOf (record x { epoch = z }) (ToAccess a) caller) (sym of_epoch) own
    caller_done (ToTarget a) caller e of_epoch own = subst (λ z. IsCallerOf (record x { epoch = z }) (ToTarget a) caller) (sym of_epoch) own
    caller_done ToPlace caller e of_epoch own = subst (λ z. IsCallerOf (record x { epoch = z }) ToPlace caller) (sym of_epoch) own
    caller_done ToSnap caller e of_epoch own = subst (λ z. IsCallerOf (record x { epoch = z }) ToSnap caller) (sym of_epoch) own
    caller_done ToScanner (callers.Scans mutators) e of_epoch own = own
    caller_done ToScanner (callers.Faulted page) e of_epoch own = absurd own
    caller_done ToScanner callers.Allocates e of_epoch own = absurd own

    epoch_done : (b : Back) (e : ℕ) → IsEpochOf (record x { epoch = e }) b e
    epoch_done ToScanner e = tt
    epoch_done _ e = refl

    back_done : (b : Back) (e : ℕ) → IsEpochOf x b e → FitsBack x b → FitsBack (record x { epoch = e }) b
    back_done (ToAccess a) e of_epoch own = subst (λ z. FitsBack (record x { epoch = z }) (ToAccess a)) (sym of_epoch) own
    back_done (ToTarget a) e of_epoch own = subst (λ z. FitsBack (record x { epoch = z }) (ToTarget a)) (sym of_epoch) own
    back_done ToPlace e of_epoch own = tt
    back_done ToSnap e of_epoch own = tt
    back_done ToScanner e of_epoch own = own

    pub fits_done : Fits c.pages c.mutators k done
    fits_done =
        let f = is.fits in
        let own = f.stage.0 in
        record {
          worker = with_parts f.worker own.sound.epoch f.eight f.registers f.few_printed f.run;
          end = f.end;
          side = f.side;
          task = f.task;
          stage = (
            record {
              layout = own.layout;
              worker = own.worker;
              caller = caller_done back d.caller d.epoch own.epoch own.caller;
              epoch = epoch_done back d.epoch;
              going = tt;
              sound = sound_at LoadsGate tt;
            },
            back_done back d.epoch own.epoch f.stage.1,
          );
        }

    ended_fits : Fits c.pages c.mutators k (back_from done back)
    ended_fits = back_fits c.pages c.mutators k done fits_done is.fits.end back (back_done back d.epoch is.fits.stage.0.epoch is.fits.stage.1) is.fits.side is.fits.task

    pub own_stock_same : SameStock
    own_stock_same = same_stock back is.fits.stage.0.epoch is.fits.stage.1

    -- it ends, since the epoch is traced by it: what becomes of the worker
    pub ends_marked : (e : Option Entry) (reply : Reply) (h : Ghost) → duty.taken_at (round stage) stage reply ≡ round (Ended Marked) → won_in stage reply ≡ None
        → TracesEpoch c p s.ghost k e (back_from done back) h → Goes c p s k e x reply
    ends_marked e reply h taken none traces = traces_so c p s k x e reply (back_from done back) h
        (ap (λ (r : Round). turned_round x r back (duty.told r)) taken)
        traces (ap (λ (r : Round). told_round (duty.told r)) taken) none (subst IsSoundRound (sym taken) (sound_at (Ended Marked) tt)) ended_fits

    -- it becomes this with nothing, and what the round has read is forgotten
    pub ends_as : (reply : Reply) (result : RoundEnd) (next : Held) → duty.taken_at (round stage) stage reply ≡ round (Ended result)
        → turned_round x (round (Ended result)) back (Finished result) ≡ next → told_round (Finished result) ≡ Silent → won_in stage reply ≡ None
        → pass_at stage ≡ None → knows next ≡ rests (knows x) → Fits c.pages c.mutators k next → Goes c p s k None x reply
    ends_as reply result next taken comes silent none still known fits = becomes c p s k x None reply next s.ghost
        (ap (λ (r : Round). turned_round x r back (duty.told r)) taken ∙ comes)
        is.below
        (subst (λ (w : Known). Law c p s k x None w s.ghost) (ap ends_round is.as_known ∙ (λ i. record (ends_round (knows x)) { pass = still i }) ∙ sym known)
        (rounds_end (era c) (memory c) (team c) s.ghost k (prepared c p s k x is) (ap (λ (w : Known). w.pass) is.as_known ∙ still)))
        (ap (λ (r : Round). told_round (duty.told r)) taken ∙ silent) none (subst IsSoundRound (sym taken) (sound_at (Ended result) tt)) fits

    -- the worker goes back
    pub goes_back_with : (reply : Reply) (result : RoundEnd) → duty.taken_at (round stage) stage reply ≡ round (Ended result)
        → turned_round x (round (Ended result)) back (Finished result) ≡ back_from done back → told_round (Finished result) ≡ Silent → won_in stage reply ≡ None
        → pass_at stage ≡ None → epoch_at y.epoch (round stage) stage ≡ d.epoch → Goes c p s k None x reply
    goes_back_with reply result taken comes silent none still own = ends_as reply result (back_from done back) taken comes silent none still (ended_known own own_stock_same) ended_fits

    -- there is nothing to do now
    pub ends : (reply : Reply) (word : ℕ) → duty.taken_at (round stage) stage reply ≡ round (Ended (NothingNow word)) → won_in stage reply ≡ None
        → pass_at stage ≡ None → epoch_at y.epoch (round stage) stage ≡ d.epoch → Goes c p s k None x reply
    ends reply word taken none still own = goes_back_with reply (NothingNow word) taken refl refl none still own

    -- the pages of the round's heap are the heap's
    pub same_pages : d.layout.pages ≡ c.pages
    same_pages = ap (λ (l : Layout). l.pages) is.fits.stage.0.layout ∙ is.fits.pages

    -- a load of a row
    pub loads_it : (row : Row) → IsRow c.pages row → duty.wanted (round stage) ≡ Some (Load (place_of d.layout.pages row))
        → Goes c p s k None x (Value (word_in c.pages c.words row)) → StepsSo c p s k x
    loads_it row is_row want goes =
        wants c p s k x (Load (place_of c.pages row)) (want ∙ ap (λ n. Some (Load (place_of n row))) same_pages) (loads c p s k x row is_row goes)
