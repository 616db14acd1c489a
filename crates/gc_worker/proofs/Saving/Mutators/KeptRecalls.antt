-- A mutator that begins to run learns which checkpoint is in progress: this keeps what is kept of checkpoints.
use Rattle.std.proofs.Common.{◌≡◌, ℕ, ◌^◌, ◌<◌, Bool, true, false, cond, Option, None, Some, refl, sym, ap, subst, ◌∙◌, slice_index}
use Rattle.std.proofs.lemmas.Bool.{lt-ltb}
use Rattle.plain_state.specs.State.{Plain}
use Rattle.atom_store.specs.declared.reply.Reply.TheVariants.{Value}
use Rattle.atom_store.specs.declared.step.Step.{Step}
use Rattle.atom_store.specs.declared.step.Step.TheVariants.{Load}
use Rattle.gate_core.specs.declared.recall.recall_stage.RecallStage.{RecallStage}
use Rattle.gate_core.specs.declared.recall.recall_stage.RecallStage.TheVariants as recall_stage
use Rattle.gate_core.specs.declared.recall.recalled.Recalled.{Recalled}
use Rattle.gate_core.specs.Recall.{Recalling, number_in, read_done, read_snap, running_of, told_at}
use Rattle.space_map.specs.Spaces.{Layout}
use Rattle.space_map.specs.Table.{Row, SnapNumber, LastSaved, place_of}
use Rattle.heap_state.specs.Configuration.{Configuration, table, team}
use Rattle.heap_state.specs.Functions.{put}
use Rattle.heap_state.specs.Saving.Frozen.{Frozen}
use Rattle.heap_state.specs.Saving.Parts.{SavingStands}
use Rattle.heap_state.specs.Saving.Savers.{Saver}
use Rattle.heap_state.specs.Saving.Words.{saves_of}
use Rattle.heap_state.proofs.Table.StoredRows.{word_in-row}
use Rattle.heap_laws.specs.Saving.Rounds.{LearnsOfSaves, RecallsSnap, RecallsDone, running_by}
use Rattle.heap_laws.proofs.Saving.LearntSaves.{numbers_fit, savers_learn}
use Rattle.gc_worker.specs.declared.stage.after.After.{After}
use Rattle.gc_worker.specs.declared.stage.Stage.TheVariants.{Recalls}
use Rattle.gc_worker.specs.Steps.Turned.{Silent, recalled, turned, turned_recall}
use Rattle.gc_worker.specs.Steps.Wanted.{wanted}
use Rattle.gc_worker.specs.Workers.Held.{Held, at_stage}
use Rattle.gc_worker.specs.Workers.Saves.{saver_of}
use Rattle.gc_worker.proofs.Saving.Frame.Answers.{keeps_snaps}
use Rattle.gc_worker.proofs.Saving.Frame.StepRows.{learns_by, loads_so}
use Rattle.gc_worker.proofs.Saving.Frame.Running.{running_saver, goes_on_runs}
use Rattle.gc_worker.proofs.Saving.Mutators.KeptSaves.{asked_so}
use Rattle.gc_worker.proofs.Saving.Frame.Step.{Before, SavesStep, saves}

-- ---- the words

module _ (c : Configuration) where
  abbrev word_at : Row → ℕ
  word_at row = slice_index c.words (place_of c.pages row)

  snap_now : (saves c).snap ≡ word_at SnapNumber
  unfolding saves_of
  snap_now = word_in-row c.pages c.words SnapNumber tt

  done_now : (saves c).done ≡ word_at LastSaved
  unfolding saves_of
  done_now = word_in-row c.pages c.words LastSaved tt

number_is : (word : ℕ) → word < 2 ^ 32 → number_in word ≡ Some word
number_is word small = ap (λ (b : Bool). cond b (Some word) None) (lt-ltb word (2 ^ 32) small)

-- ---- the steps

module _ (c : Configuration) (p : Plain) (z : Frozen) (saver : ℕ → Saver) (k : ℕ) (y : Held) (after : After) where
  abbrev at : Recalling → Held
  at r = at_stage y (Recalls r after)

  module _ (r : Recalling) (b : Before c p z saver k (at r)) where
    pages : r.layout.pages ≡ c.pages
    pages = ap (λ (l : Layout). l.pages) b.is.fits.stage.layout ∙ b.is.fits.pages

    abbrev next : RecallStage → Held
    next stage = turned_recall (at r) (record r { stage = stage }) after (told_at stage)

    -- a load after which it is at this stage, and has learnt this
    learns : (row : Row) (stage : RecallStage) (w : Saver) → turned (at r) (Value (word_at c row)) ≡ next stage → w ≡ saver_of (next stage) → LearnsOfSaves (table c) (saves c) (saver k) w
        → wanted (at r) ≡ Some (Load (place_of r.layout.pages row)) → (q : Step) → wanted (at r) ≡ Some q → SavesStep c p saver k (at r) q
    learns row stage w turns same learnt wants q asked =
        asked_so c p z saver k (at r) b (Load (place_of c.pages row)) q (wants ∙ ap (λ (n : ℕ). Some (Load (place_of n row))) pages) asked
        (loads_so c p z saver k (at r) b (place_of c.pages row)
        (learns_by c p z saver k (at r) b (Value (word_at c row))
        (subst (λ (v : Saver). SavingStands (table c) (saves c) z (team c).count (put saver k v)) (same ∙ ap saver_of (sym turns))
        (savers_learn (table c) (saves c) z (team c).count saver k w b.saving b.is.below learnt))
        (keeps_snaps p k Silent tt)))

  module _ (layout : Layout) where
    abbrev first : Recalling
    first = record { layout = layout; stage = recall_stage.LoadsSnap }

    loads_snap : Before c p z saver k (at first) → (q : Step) → wanted (at first) ≡ Some q → SavesStep c p saver k (at first) q
    loads_snap b q asked =
        let room = b.room in
        let word : ℕ = word_at c SnapNumber in
        let fits = number_is word (rw (snap_now c) at ((numbers_fit (table c) (saves c) z b.saving.words).0)) in
        let w : Saver = record (saver k) { recalled = true; reads_done = true; snap = word; running = 0; settled = false } in
        let same : record (saver_of (at first)) { recalled = true; reads_done = true; snap = word; running = 0; settled = false } ≡ saver_of (next first b (recall_stage.LoadsDone word)) = rw room refl in
        learns first b SnapNumber (recall_stage.LoadsDone word) w (ap (λ (o : Option ℕ). next first b (read_snap o)) fits)
        (ap (λ (v : Saver). record v { recalled = true; reads_done = true; snap = word; running = 0; settled = false }) b.own ∙ same)
        (RecallsSnap word (ap (λ (v : Saver). v.runs) b.own) (ap (λ (v : Saver). v.recalled) b.own ∙ rw room refl) (snap_now c)) refl q asked

    module _ (number : ℕ) where
      abbrev second : Recalling
      second = record { layout = layout; stage = recall_stage.LoadsDone number }

      loads_done : Before c p z saver k (at second) → (q : Step) → wanted (at second) ≡ Some q → SavesStep c p saver k (at second) q
      loads_done b q asked =
          let room = b.room in
          let word : ℕ = word_at c LastSaved in
          let fits = number_is word (rw (done_now c) at ((numbers_fit (table c) (saves c) z b.saving.words).1)) in
          let result : Recalled = record { number = number; running = running_of number word } in
          let same : record (saver_of (at second)) { reads_done = false; running = running_by number word; guarded = None } ≡ running_saver number (running_of number word) = rw room refl in
          learns second b LastSaved (recall_stage.Ended result) (record (saver k) { reads_done = false; running = running_by (saver k).snap word; guarded = None })
          (ap (λ (o : Option ℕ). next second b (read_done number o)) fits)
          (ap (λ (v : Saver). record v { reads_done = false; running = running_by v.snap word; guarded = None }) b.own ∙ same
          ∙ sym (goes_on_runs (recalled (at second) result) room after))
          (RecallsDone word (ap (λ (v : Saver). v.recalled) b.own ∙ rw room refl) (ap (λ (v : Saver). v.reads_done) b.own) (done_now c)) refl q asked

  by_stage : (layout : Layout) (stage : RecallStage) → Before c p z saver k (at (record { layout = layout; stage = stage })) → (q : Step) → wanted (at (record { layout = layout; stage = stage })) ≡ Some q
      → SavesStep c p saver k (at (record { layout = layout; stage = stage })) q
  by_stage layout recall_stage.LoadsSnap b = loads_snap layout b
  by_stage layout (recall_stage.LoadsDone number) b = loads_done layout number b
  by_stage layout (recall_stage.Ended result) b = absurd b.is.fits.stage.going

  pub recalls : (r : Recalling) → Before c p z saver k (at r) → (q : Step) → wanted (at r) ≡ Some q → SavesStep c p saver k (at r) q
  recalls r b = by_stage r.layout r.stage b
