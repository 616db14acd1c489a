-- A round for the checkpoint in progress: what each of its steps keeps of checkpoints, also those by which it saves a page, and the exchange
-- of DONE by which the checkpoint is finished.
use Rattle.std.proofs.Common.{◌≡◌, ℕ, ◌+◌, ◌-◌, ◌*◌, true, false, None, Some, refl, sym, ap, subst, ◌∙◌}
use Rattle.plain_state.specs.State.{Plain}
use Rattle.atom_store.specs.declared.reply.Reply.TheVariants.{Won, Lost}
use Rattle.atom_store.specs.declared.step.Step.{Step}
use Rattle.atom_store.specs.declared.step.Step.TheVariants.{Exchange}
use Rattle.space_map.specs.declared.save_word.SaveWord.TheVariants.{Saved as SavedWord}
use Rattle.space_map.specs.declared.spaces.TheConstants.{PAGE_WORDS}
use Rattle.space_map.specs.Spaces.{to_space}
use Rattle.space_map.specs.Table.{LastSaved}
use Rattle.space_map.specs.WholeTable.{Within, whole_place_of}
use Rattle.heap_state.specs.Configuration.{Configuration, table, team}
use Rattle.heap_state.specs.Functions.{put}
use Rattle.heap_state.specs.Memory.Entries.{LastSavedIs, SaveIs}
use Rattle.heap_state.specs.Memory.Table.{word_in}
use Rattle.heap_state.specs.Saving.Frozen.{Frozen}
use Rattle.heap_state.specs.Saving.Parts.{SavingStands}
use Rattle.heap_state.specs.Saving.Savers.{Saver, SaveRound}
use Rattle.heap_laws.specs.Saving.Pages.{EndsSave, SavesPages, saver_after_save}
use Rattle.heap_laws.specs.Saving.Rounds.{round_past, saver_after_round}
use Rattle.heap_laws.specs.Saving.Rows.{HasPassedAll}
use Rattle.heap_laws.proofs.Saving.FinishedCheckpoints.{checkpoints_end}
use Rattle.heap_laws.proofs.Saving.LearntSaves.{rounds_follow}
use Rattle.page_saves.specs.declared.save_end.SaveEnd.TheVariants as save_end
use Rattle.page_saves.specs.declared.save_round_end.SaveRoundEnd.TheVariants.{Saved, Marked, NothingNow}
use Rattle.page_saves.specs.declared.save_round_stage.SaveRoundStage.{SaveRoundStage}
use Rattle.page_saves.specs.declared.save_round_stage.SaveRoundStage.TheVariants.{LoadsGate, LoadsSnap, LoadsDone, LoadsGateAgain, Saves, ExchangesDone, Ended}
use Rattle.page_saves.specs.declared.save_stage.SaveStage.{SaveStage}
use Rattle.page_saves.specs.declared.save_stage.SaveStage.TheVariants as save_stage
use Rattle.page_saves.specs.Save as save
use Rattle.page_saves.specs.Save.{PageSaving, next_stage}
use Rattle.page_saves.specs.SaveRound as save_round
use Rattle.page_saves.specs.SaveRound.{SavingRound, save_went}
use Rattle.page_saves.specs.SoundSave.{IsOwnSave}
use Rattle.gc_worker.specs.declared.stage.goal.Goal.{Goal}
use Rattle.gc_worker.specs.declared.stage.Stage.TheVariants.{Checkpoints}
use Rattle.gc_worker.specs.Steps.Turned.{Silent, turned_save_round}
use Rattle.gc_worker.specs.Steps.Wanted.{wanted}
use Rattle.gc_worker.specs.Workers.Held.{Held, at_stage}
use Rattle.gc_worker.specs.Workers.Saves.{page_save_at, save_step, saver_of}
use Rattle.gc_worker.proofs.Saving.Frame.Answers.{keeps_snaps}
use Rattle.gc_worker.proofs.Saving.Checkpoints.CheckpointRoundEnds.{By, comes_to, ends_round, ends_save, marked_ends, no_reads, nothing_ends, pages, saved_ends, table_pages, without_round}
use Rattle.gc_worker.proofs.Saving.Checkpoints.First.{loads_done, loads_gate, loads_gate_again, loads_snap}
use Rattle.gc_worker.proofs.Saving.Checkpoints.CheckpointPages.{looks}
use Rattle.gc_worker.proofs.Saving.Frame.Read.{done_now, wants_so}
use Rattle.gc_worker.proofs.Saving.Frame.StepRows.{SavedBy, exchanges_so, kept_by}
use Rattle.gc_worker.proofs.Saving.Mutators.KeptSaves.{Comes, saves_page}
use Rattle.gc_worker.proofs.Saving.Frame.Step.{Before, SavesStep, saves}
use Rattle.gc_worker.proofs.Stages.Checkpoints.NextCheckpointStage.{round}
use Rattle.gc_worker.proofs.Stages.Checkpoints.Rounded.{at}

module _ (c : Configuration) (p : Plain) (z : Frozen) (saver : ℕ → Saver) (k : ℕ) (y : Held) (r : SavingRound) (goal : Goal) where
  abbrev Stage : SaveRoundStage → Held
  Stage stage = at y (round r stage) goal

  abbrev Kept : SaveRoundStage → Type 0
  Kept stage = (q : Step) → wanted (Stage stage) ≡ Some q → SavesStep c p saver k (Stage stage) q

  -- ---- a page is saved

  module _ (s : PageSaving) (b : Before c p z saver k (Stage (Saves s))) where
    abbrev x : Held
    x = Stage (Saves s)

    own : IsOwnSave r.layout s.page r.number r.worker s
    own = b.is.fits.stage.sound.stage.1

    mine : s.worker ≡ k
    mine = own.by_worker ∙ (b.is.fits.stage.worker ∙ b.is.fits.number)

    layout : s.layout ≡ y.layout
    layout = own.in_layout ∙ b.is.fits.stage.layout

    abbrev then : SaveStage → SaveRoundStage
    then next = save_went (record s { stage = next }) (save.told_at next)

    abbrev After : SaveStage → Type 0
    After next = Comes c p z saver k x b s layout own.sound mine (λ reply. refl) next (turned_save_round x (round r (then next)) goal (save_round.told_at (then next)))

    goes_on : (next : SaveStage) → saver_of (Stage (Saves (record s { stage = next }))) ≡ record (saver_of x) { save = page_save_at (record s { stage = next }) next }
    goes_on next =
        let same = no_reads y (round r (Saves (record s { stage = next }))) goal refl ∙ sym (no_reads y (round r (Saves s)) goal refl) in
        (λ i. record (saver_of (Stage (Saves (record s { stage = next })))) { reads = same i })

    comes : (next : SaveStage) → After next
    comes save_stage.Exchanges = goes_on save_stage.Exchanges
    comes (save_stage.LoadsWord i) = goes_on (save_stage.LoadsWord i)
    comes (save_stage.StoresImage i word) = goes_on (save_stage.StoresImage i word)
    comes save_stage.StoresSaved = goes_on save_stage.StoresSaved
    comes (save_stage.Ended save_end.Saved) = λ held.
        subst (SavesPages (table c) (saves c) z k (saver k) (Some (SaveIs s.page (SavedWord s.number))))
        (ap saver_after_save b.own ∙ sym (ends_save y (round r (Saves s)) goal Saved (saved_ends goal) refl)) (EndsSave (save_step s true PAGE_WORDS None) held refl refl)
    comes (save_stage.Ended (save_end.Taken word)) = ends_save y (round r (Saves s)) goal (NothingNow word) (nothing_ends goal word) refl

    saves_it : Kept (Saves s)
    saves_it = saves_page c p z saver k x b s layout own.sound mine (λ reply. refl) own.going refl (λ reply. comes (next_stage s.stage reply)) refl

  -- ---- DONE

  module _ (b : Before c p z saver k (Stage ExchangesDone)) where
    abbrev v : Saver
    v = saver_of (Stage ExchangesDone)

    abbrev passed : SaveRound
    passed = round_past r.number r.epoch (r.layout.pages * to_space r.epoch + r.layout.pages) false

    all : HasPassedAll (table c).pages passed
    all = subst (λ (n : ℕ). HasPassedAll n passed) (table_pages c p z saver k y (round r ExchangesDone) goal b) (rounds_follow.all r.layout.pages r.number r.epoch)

    finished : (saves c).done ≡ r.number - 1 → SavingStands (table c) (record (saves c) { done = r.number }) z (team c).count (put saver k (saver_after_round v))
    finished same =
        subst (λ (w : Saver). SavingStands (table c) (record (saves c) { done = r.number }) z (team c).count (put saver k (saver_after_round w))) b.own
        (checkpoints_end (table c) (saves c) z (team c).count saver k passed b.saving b.is.below (ap (λ (w : Saver). w.round) b.own) all same)

    wins : word_in c.pages c.words LastSaved ≡ r.number - 1 → SavedBy c p saver k (Stage ExchangesDone) (Some (LastSavedIs r.number)) Won
    wins same =
        kept_by c p z saver k (Stage ExchangesDone) b (Some (LastSavedIs r.number)) Won tt refl
        (subst (λ (w : Saver). SavingStands (table c) (record (saves c) { done = r.number }) z (team c).count (put saver k w))
        (sym (ends_round y (round r ExchangesDone) goal Marked (marked_ends goal) refl refl)) (finished (done_now c ∙ same))) (keeps_snaps p k Silent tt)

    loses : (word : ℕ) → By c p z saver k y (round r ExchangesDone) goal b (Lost word)
    loses word =
        comes_to c p z saver k y (round r ExchangesDone) goal b (Lost word) (round r (Ended (NothingNow word))) (saver_after_round v) refl
        (ends_round y (round r ExchangesDone) goal (NothingNow word) (nothing_ends goal word) refl refl) (without_round c p z saver k y (round r ExchangesDone) goal b)

    marks : Kept ExchangesDone
    marks =
        wants_so c p z saver k (Stage ExchangesDone) b (Exchange (whole_place_of c.pages (Within LastSaved)) (r.number - 1) r.number)
        (ap (λ (n : ℕ). Some (Exchange (whole_place_of n (Within LastSaved)) (r.number - 1) r.number)) (pages c p z saver k y (round r ExchangesDone) goal b))
        (exchanges_so c p z saver k (Stage ExchangesDone) b (LastSavedIs r.number) (r.number - 1) tt wins (loses _))

  -- ---- each stage

  by_stage : (stage : SaveRoundStage) → Before c p z saver k (Stage stage) → Kept stage
  by_stage LoadsGate b = loads_gate c p z saver k y r goal b
  by_stage LoadsSnap b = loads_snap c p z saver k y r goal b
  by_stage LoadsDone b = loads_done c p z saver k y r goal b
  by_stage LoadsGateAgain b = loads_gate_again c p z saver k y r goal b
  by_stage (Saves s) b = saves_it s b
  by_stage ExchangesDone b = marks b
  by_stage (Ended result) b = absurd b.is.fits.stage.going
  by_stage stage b = looks c p z saver k y r goal stage tt b

  -- a step of a round keeps what is kept of checkpoints
  pub checkpoints : Before c p z saver k (at_stage y (Checkpoints r goal)) → (q : Step) → wanted (at_stage y (Checkpoints r goal)) ≡ Some q
      → SavesStep c p saver k (at_stage y (Checkpoints r goal)) q
  checkpoints b = by_stage r.stage b
