-- A round finds its epoch traced. A mutator that waits to load the target of a cell does so. One that begins a checkpoint, and a scanner
-- where there are checkpoints, goes on with a round for the one in progress; any other worker goes back.
use Rattle.std.proofs.Common.{◌≡◌, ℕ, ◌+◌, Bool, true, false, None, cond, refl, sym, ap, subst, ◌∙◌}
use Rattle.plain_state.specs.State.{Plain}
use Rattle.atom_store.specs.declared.reply.Reply.{Reply}
use Rattle.fault_duty.specs.declared.duty_stage.DutyStage.{DutyStage}
use Rattle.fault_duty.specs.declared.duty_stage.DutyStage.TheVariants.{Ended}
use Rattle.fault_duty.specs.declared.round_end.RoundEnd.TheVariants.{Traced}
use Rattle.fault_duty.specs.Duty as duty
use Rattle.fault_duty.specs.Duty.{Round}
use Rattle.fault_duty.specs.Soundness.{IsSoundRound}
use Rattle.heap_state.specs.Configuration.{Configuration, Stands, era, memory, team}
use Rattle.heap_state.specs.Known.{Known, is_running}
use Rattle.heap_laws.specs.Composing.{ends_round}
use Rattle.heap_laws.proofs.Gate.GateReads.{sees_traced}
use Rattle.heap_laws.proofs.Steps.Composing.{steps_forget}
use Rattle.heap_laws.proofs.Steps.Forgotten.{rounds_are_forgotten}
use Rattle.record_access.specs.declared.access.Access.{Access}
use Rattle.gc_worker.specs.declared.stage.back.Back.{Back}
use Rattle.gc_worker.specs.declared.stage.back.Back.TheVariants.{ToAccess, ToTarget, ToPlace, ToSnap, ToScanner}
use Rattle.gc_worker.specs.declared.stage.goal.Goal.TheVariants.{ForSnap, ForScanner}
use Rattle.gc_worker.specs.declared.stage.Stage.TheVariants.{Accesses}
use Rattle.gc_worker.specs.Steps.Goes.{Is, Goes}
use Rattle.gc_worker.specs.Workers.Fits.{Fits}
use Rattle.gc_worker.specs.Workers.Held.{Held, at_stage}
use Rattle.gc_worker.specs.Workers.Knows.{knows, epoch_at, pass_at, post_back}
use Rattle.gc_worker.specs.Steps.Turned.{checkpoints, goes_back, turned_round, won_in, told_round}
use Rattle.atom_store.specs.declared.turn.Turn.TheVariants.{Finished}
use Rattle.gc_worker.proofs.Workers.KeptParts.{refit}
use Rattle.gc_worker.proofs.Workers.Checkpointing.{has_room, round_for_snap, round_of_scanner}
use Rattle.gc_worker.proofs.Stages.Rounds.NextRoundStage.{at, done, ends_as, fits_done, goes_back_with, own_stock_same, rests, round, sound_at}
use Rattle.gc_worker.proofs.Stages.Rounds.RoundWords.{traced_now, traced_word}
use Rattle.gc_worker.proofs.Words.RowSteps.{Law, becomes, prepared}

module _ (c : Configuration) (p : Plain) (s : Stands c p) (k : ℕ) (y : Held) (d : Round) (stage : DutyStage) (reply : Reply) where
  -- the round finds it so
  abbrev Finds : Type 0
  Finds = duty.taken_at (record d { stage = stage }) stage reply ≡ record d { stage = Ended Traced }

  module _ (taken : Finds) (none : won_in stage reply ≡ None) (still : pass_at stage ≡ None) (own : epoch_at y.epoch (record d { stage = stage }) stage ≡ d.epoch) where
    -- ---- a mutator that goes on has seen it

    abbrev aware : Known → Known
    aware w = record w { traced_seen = true }

    module _ (back : Back) (is : Is c k (at c p s k y d back stage)) (runs : is_running (post_back back) ≡ true) (traced : traced_now c ≡ d.epoch + 1) where
      abbrev x : Held
      x = at c p s k y d back stage

      sees : Law c p s k x None (aware ((team c).worker k)) s.ghost
      sees = sees_traced (era c) (memory c) (team c) s.ghost k (prepared c p s k x is) (ap (λ (w : Known). is_running w.post) is.as_known ∙ runs)
          (traced_word c ∙ (traced ∙ sym (ap (λ (w : Known). w.epoch + 1) is.as_known ∙ ap (λ (e : ℕ). e + 1) own)))

      -- it forgets what the round has read
      law : (next : Held) → knows next ≡ aware (rests (knows x)) → Law c p s k x None (knows next) s.ghost
      law next known =
          let w = aware ((team c).worker k) in
          subst (λ (v : Known). Law c p s k x None v s.ghost) (ap (λ (v : Known). aware (ends_round v)) is.as_known ∙ (λ i. record (aware (ends_round (knows x))) { pass = still i }) ∙ sym known)
          (steps_forget (era c) (memory c) (team c) s.ghost k None w (ends_round w) s.ghost sees (rounds_are_forgotten w (ap (λ (v : Known). v.pass) is.as_known ∙ still)))

      goes : (next : Held) → turned_round x (round c p s k y d back (Ended Traced)) back (Finished Traced) ≡ next → knows next ≡ aware (rests (knows x)) → Fits c.pages c.mutators k next
          → Goes c p s k None x reply
      goes next comes known fits =
          becomes c p s k x None reply next s.ghost (ap (λ (r : Round). turned_round x r back (duty.told r)) taken ∙ comes) is.below (law next known)
          (ap (λ (r : Round). told_round (duty.told r)) taken) none (subst IsSoundRound (sym taken) (sound_at c p s k y d back stage is (Ended Traced) tt)) fits

    -- it loads the target of a cell
    module _ (a : Access) (is : Is c k (at c p s k y d (ToTarget a) stage)) where
      abbrev waited : Held
      waited = done c p s k y d (ToTarget a)

      abbrev loads : Held
      loads = at_stage waited (Accesses a)

      knows_loads : knows loads ≡ aware (rests (knows (at c p s k y d (ToTarget a) stage)))
      knows_loads =
          let stock = own_stock_same c p s k y d (ToTarget a) stage is in
          λ i. record (knows loads) { epoch = sym own i; stock = stock i; traced_seen = is.fits.stage.1.1 i }

      loads_fits : Fits c.pages c.mutators k loads
      loads_fits =
          let f = fits_done c p s k y d (ToTarget a) stage is in refit c.pages c.mutators k waited f (Accesses a) is.fits.end is.fits.side is.fits.task f.stage.1.0

    -- it begins a checkpoint
    module _ (is : Is c k (at c p s k y d ToSnap stage)) where
      abbrev asked : Held
      asked = done c p s k y d ToSnap

      abbrev begun : Held
      begun = at_stage asked (checkpoints asked ForSnap)

      knows_begun : knows begun ≡ aware (rests (knows (at c p s k y d ToSnap stage)))
      knows_begun = let stock = own_stock_same c p s k y d ToSnap stage is in λ i. record (knows begun) { epoch = sym own i; stock = stock i }

      begun_fits : Fits c.pages c.mutators k begun
      begun_fits =
          let f = fits_done c p s k y d ToSnap stage is in
          let task = is.fits.task in
          round_for_snap c.pages c.mutators k asked f is.fits.end (has_room asked task.1) is.fits.side task.0 task.1

    -- ---- a scanner

    module _ (is : Is c k (at c p s k y d ToScanner stage)) where
      abbrev scanner : Held
      scanner = done c p s k y d ToScanner

      abbrev helping : Held
      helping = at_stage scanner (checkpoints scanner ForScanner)

      helps_by : (b : Bool) → y.layout.checkpoints ≡ b → Goes c p s k None (at c p s k y d ToScanner stage) reply
      helps_by true room =
          let f = fits_done c p s k y d ToScanner stage is in
          let stock = own_stock_same c p s k y d ToScanner stage is in
          ends_as c p s k y d ToScanner stage is reply Traced helping taken
          (ap (λ (b : Bool). at_stage scanner (cond b (checkpoints scanner ForScanner) (goes_back scanner ToScanner))) room) refl none still
          (λ i. record (knows helping) { epoch = sym own i; stock = stock i })
          (round_of_scanner c.pages c.mutators k scanner f is.fits.end room is.fits.side is.fits.task is.fits.stage.1)
      helps_by false room = goes_back_with c p s k y d ToScanner stage is reply Traced taken
          (ap (λ (b : Bool). at_stage scanner (cond b (checkpoints scanner ForScanner) (goes_back scanner ToScanner))) room) refl none still own

    -- ---- all

    pub finds_traced : (back : Back) → Is c k (at c p s k y d back stage) → traced_now c ≡ d.epoch + 1 → Goes c p s k None (at c p s k y d back stage) reply
    finds_traced (ToAccess a) is traced = goes_back_with c p s k y d (ToAccess a) stage is reply Traced taken refl refl none still own
    finds_traced (ToTarget a) is traced = goes (ToTarget a) is refl traced (loads a is) refl (knows_loads a is) (loads_fits a is)
    finds_traced ToPlace is traced = goes_back_with c p s k y d ToPlace stage is reply Traced taken refl refl none still own
    finds_traced ToSnap is traced = goes ToSnap is refl traced (begun is) refl (knows_begun is) (begun_fits is)
    finds_traced ToScanner is traced = helps_by is y.layout.checkpoints refl
