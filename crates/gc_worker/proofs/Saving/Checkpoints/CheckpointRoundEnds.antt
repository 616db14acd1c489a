-- A round for the checkpoint in progress, between two of its stages and at its end: what its worker then holds of checkpoints.
use Rattle.std.proofs.Common.{◌≡◌, ℕ, None, Some, refl, sym, ap, subst, ◌∙◌}
use Rattle.plain_state.specs.State.{Plain}
use Rattle.atom_store.specs.declared.reply.Reply.{Reply}
use Rattle.atom_store.specs.declared.reply.Reply.TheVariants.{Value}
use Rattle.atom_store.specs.declared.step.Step.{Step}
use Rattle.atom_store.specs.declared.step.Step.TheVariants.{Load}
use Rattle.space_map.specs.Spaces.{Layout}
use Rattle.space_map.specs.WholeTable.{WholeRow, IsWholeRow, whole_place_of}
use Rattle.heap_state.specs.Configuration.{Configuration, table, team}
use Rattle.heap_state.specs.Memory.Entries.{word_in_whole}
use Rattle.heap_state.specs.Memory.Table.{table_of}
use Rattle.heap_state.specs.Saving.Frozen.{Frozen}
use Rattle.heap_state.specs.Saving.Savers.{Saver, NoReads}
use Rattle.heap_laws.specs.Saving.Rounds.{LearnsOfSaves, saver_after_reads, saver_after_round}
use Rattle.heap_laws.specs.Saving.Rows.{SparesNone}
use Rattle.heap_laws.proofs.Saving.Forgotten.{each_is_forgotten}
use Rattle.heap_laws.proofs.Saving.LearntSaves.{savers_learn}
use Rattle.page_saves.specs.declared.save_round_end.SaveRoundEnd.{SaveRoundEnd}
use Rattle.page_saves.specs.declared.save_round_end.SaveRoundEnd.TheVariants.{NoneRuns, Saved, Marked, NothingNow}
use Rattle.page_saves.specs.declared.save_round_stage.SaveRoundStage.{SaveRoundStage}
use Rattle.page_saves.specs.SaveRound as save_round
use Rattle.page_saves.specs.SaveRound.{SavingRound}
use Rattle.gc_worker.specs.declared.stage.goal.Goal.{Goal}
use Rattle.gc_worker.specs.declared.stage.goal.Goal.TheVariants.{ForFlip, ForSnap, ForScanner}
use Rattle.gc_worker.specs.Steps.Turned.{rounded, turned_save_round}
use Rattle.gc_worker.specs.Steps.Wanted.{wanted}
use Rattle.gc_worker.specs.Workers.Held.{Held, at_stage}
use Rattle.gc_worker.specs.Workers.Saves.{reads_at, reads_for, save_round_at, save_of_round, saver_of}
use Rattle.gc_worker.proofs.Saving.Frame.Read.{With, becomes_by, loads_row, wants_so}
use Rattle.gc_worker.proofs.Saving.Frame.StepRows.{SavedBy}
use Rattle.gc_worker.proofs.Saving.Frame.Step.{Before, SavesStep, saves}
use Rattle.gc_worker.proofs.Stages.Checkpoints.NextCheckpointStage.{round}
use Rattle.gc_worker.proofs.Stages.Checkpoints.Rounded.{at}

-- who has no round, and has read nothing for one
abbrev pub saver_bare : Saver → Saver
saver_bare w = record w { save = None; reads = NoReads; round = None }

-- the round ends, and no mutator asks for anything then
abbrev pub IsEnd : Goal → SaveRoundEnd → Type 0
IsEnd ForScanner result = Unit {0}
IsEnd ForFlip (NoneRuns number) = ⊥
IsEnd ForSnap (NoneRuns number) = ⊥
IsEnd goal result = Unit {0}

module _ (y : Held) (r : SavingRound) where
  ends_bare : (goal : Goal) (result : SaveRoundEnd) → IsEnd goal result → saver_of (at_stage (at y r goal) (rounded (at y r goal) goal result)) ≡ saver_bare (saver_of (at y r goal))
  ends_bare ForFlip (NoneRuns number) end = absurd end
  ends_bare ForSnap (NoneRuns number) end = absurd end
  ends_bare _ _ end = refl

  -- past its first reads it has read nothing that counts
  pub no_reads : (goal : Goal) → reads_at r r.stage ≡ NoReads → reads_for goal r ≡ NoReads
  no_reads ForScanner none = none
  no_reads ForFlip none = refl
  no_reads ForSnap none = refl

  module _ (goal : Goal) (result : SaveRoundEnd) (end : IsEnd goal result) where
    pub ends_round : save_of_round r.stage ≡ None → reads_at r r.stage ≡ NoReads
        → saver_of (at_stage (at y r goal) (rounded (at y r goal) goal result)) ≡ saver_after_round (saver_of (at y r goal))
    ends_round none first =
        ends_bare goal result end ∙ (λ i. record (saver_of (at y r goal)) { save = sym none i; reads = sym (no_reads goal first) i; round = None })

    pub ends_reads : save_of_round r.stage ≡ None → save_round_at r r.stage ≡ None
        → saver_of (at_stage (at y r goal) (rounded (at y r goal) goal result)) ≡ saver_after_reads (saver_of (at y r goal))
    ends_reads none no_round =
        ends_bare goal result end ∙ (λ i. record (saver_of (at y r goal)) { save = sym none i; reads = NoReads; round = sym no_round i })

    -- those of a save of one of its pages
    pub ends_save : reads_at r r.stage ≡ NoReads
        → saver_of (at_stage (at y r goal) (rounded (at y r goal) goal result)) ≡ record (saver_of (at y r goal)) { save = None; round = None }
    ends_save first = ends_bare goal result end ∙ (λ i. record (saver_of (at y r goal)) { save = None; reads = sym (no_reads goal first) i; round = None })

pub nothing_ends : (goal : Goal) (word : ℕ) → IsEnd goal (NothingNow word)
nothing_ends ForScanner word = tt
nothing_ends _ word = tt

pub saved_ends : (goal : Goal) → IsEnd goal Saved
saved_ends ForScanner = tt
saved_ends _ = tt

pub marked_ends : (goal : Goal) → IsEnd goal Marked
marked_ends ForScanner = tt
marked_ends _ = tt

-- between two stages past its first reads it has another round, and no more
pub follows : (y : Held) (r : SavingRound) (goal : Goal) (stage next : SaveRoundStage) → reads_at r stage ≡ NoReads → reads_at r next ≡ NoReads → save_of_round next ≡ save_of_round stage
    → saver_of (at y (round r next) goal) ≡ record (saver_of (at y (round r stage) goal)) { round = save_round_at r next }
follows y r goal stage next first then same =
    let reads = no_reads y (round r next) goal then ∙ sym (no_reads y (round r stage) goal first) in
    (λ i. record (saver_of (at y (round r next) goal)) { save = same i; reads = reads i })

module _ (c : Configuration) (p : Plain) (z : Frozen) (saver : ℕ → Saver) (k : ℕ) (y : Held) (r : SavingRound) (goal : Goal) (b : Before c p z saver k (at y r goal)) where
  abbrev pub x : Held
  x = at y r goal

  -- what it then holds of checkpoints
  abbrev pub WithIt : Saver → Type 0
  WithIt w = With c p z saver k x b w

  abbrev pub By : Reply → Type 0
  By reply = SavedBy c p saver k x None reply

  pub pages : r.layout.pages ≡ c.pages
  pages = ap (λ (l : Layout). l.pages) b.is.fits.stage.layout ∙ b.is.fits.pages

  pub table_pages : r.layout.pages ≡ (table c).pages
  unfolding table_of
  table_pages = pages

  -- it learns
  pub learnt : (w : Saver) → LearnsOfSaves (table c) (saves c) (saver_of x) w → WithIt w
  learnt w learns =
      savers_learn (table c) (saves c) z (team c).count saver k w b.saving b.is.below (subst (λ (v : Saver). LearnsOfSaves (table c) (saves c) v w) (sym b.own) learns)

  -- it forgets its round, or what it read first
  pub without_round : WithIt (saver_after_round (saver_of x))
  without_round =
      subst (λ (v : Saver). WithIt (saver_after_round v)) b.own (each_is_forgotten.after_round (table c) (saves c) z (team c).count saver k None b.saving b.is.below SparesNone)

  pub without_reads : WithIt (saver_after_reads (saver_of x))
  without_reads =
      subst (λ (v : Saver). WithIt (saver_after_reads v)) b.own (each_is_forgotten.after_reads (table c) (saves c) z (team c).count saver k None b.saving b.is.below SparesNone)

  -- the round becomes this by the reply
  pub comes_to : (reply : Reply) (q : SavingRound) (w : Saver) → save_round.taken r reply ≡ q → saver_of (turned_save_round x q goal (save_round.told q)) ≡ w → WithIt w → By reply
  comes_to reply q w taken is stands =
      becomes_by c p z saver k x b reply w (ap (λ (q : SavingRound). saver_of (turned_save_round x q goal (save_round.told q))) taken ∙ is) stands refl

  -- it loads a row
  pub loads_it : (row : WholeRow) → IsWholeRow r.layout.pages row → wanted x ≡ Some (Load (whole_place_of r.layout.pages row)) → By (Value (word_in_whole c.pages c.words row))
      → (q : Step) → wanted x ≡ Some q → SavesStep c p saver k x q
  loads_it row is_row want goes =
      wants_so c p z saver k x b (Load (whole_place_of c.pages row)) (want ∙ ap (λ (n : ℕ). Some (Load (whole_place_of n row))) pages)
      (loads_row c p z saver k x b row (subst (λ (n : ℕ). IsWholeRow n row) pages is_row) goes)
