-- A save round of a lone mutator: what it knows of checkpoints, and that it has less to pay where it goes on.
use Rattle.std.proofs.Common.{◌≡◌, ℕ, ◌<◌, Some, true, refl, sym, ap, subst, ◌∙◌, arith}
use Rattle.plain_state.specs.State.{Plain}
use Rattle.atom_store.specs.declared.reply.Reply.{Reply}
use Rattle.atom_store.specs.declared.reply.Reply.TheVariants.{Value}
use Rattle.atom_store.specs.declared.step.Step.TheVariants.{Load}
use Rattle.atom_store.specs.declared.turn.Turn.TheVariants.{More}
use Rattle.space_map.specs.Spaces.{Layout}
use Rattle.space_map.specs.WholeTable.{WholeRow, IsWholeRow, whole_place_of}
use Rattle.gate_core.specs.declared.passage.Passage.TheVariants.{Request}
use Rattle.heap_state.specs.Configuration.{Configuration, Stands, table}
use Rattle.heap_state.specs.Memory.Entries.{word_in_whole}
use Rattle.heap_state.specs.Known.{is_running}
use Rattle.page_saves.specs.declared.save_round_end.SaveRoundEnd.TheVariants.{NoneRuns, Saved, Marked}
use Rattle.page_saves.specs.declared.save_round_stage.SaveRoundStage.{SaveRoundStage}
use Rattle.page_saves.specs.SaveRound as save_round
use Rattle.page_saves.specs.SaveRound.{SavingRound, begun_by_mutator}
use Rattle.page_saves.proofs.SaveMeasure.{round_lowers}
use Rattle.gc_worker.specs.declared.stage.goal.Goal.{Goal}
use Rattle.gc_worker.specs.declared.stage.goal.Goal.TheVariants.{ForFlip, ForSnap, ForScanner}
use Rattle.gc_worker.specs.declared.stage.Stage.TheVariants.{Checkpoints}
use Rattle.gc_worker.specs.Steps.Turned.{after_goal, passes, rounded, turned, turned_save_round}
use Rattle.gc_worker.specs.Steps.Wanted.{wanted}
use Rattle.gc_worker.specs.Workers.Begun.{IsPastGoal}
use Rattle.gc_worker.specs.Workers.Fits.{IsRoundFor, IsRoundOfMutator}
use Rattle.gc_worker.specs.Workers.Held.{Held}
use Rattle.gc_worker.specs.Workers.Knows.{post_for}
use Rattle.gc_worker.proofs.Stages.Checkpoints.NextCheckpointStage.{round}
use Rattle.gc_worker.proofs.Stages.Checkpoints.Rounded.{at}
use Rattle.lone_mutator.specs.Law.{IsAlone, Lowers, SavesStand, StepsLower, saves}
use Rattle.lone_mutator.specs.Lone.{GoalStands, SaveRoundStands}
use Rattle.lone_mutator.specs.Potential.{save_round_left}
use Rattle.lone_mutator.proofs.Steps.Owed.{Owes, loads_any, wants}

-- ---- a mutator's

runs_by : (goal : Goal) → GoalStands goal → is_running (post_for goal) ≡ true
runs_by ForFlip own = refl
runs_by ForSnap own = refl
runs_by ForScanner own = absurd own

pub past_goal : (goal : Goal) → GoalStands goal → IsPastGoal goal
past_goal ForFlip own = tt
past_goal ForSnap own = tt
past_goal ForScanner own = absurd own

round_by : (x : Held) (goal : Goal) (r : SavingRound) → GoalStands goal → IsRoundFor x goal r → IsRoundOfMutator x r
round_by x ForFlip r own of = of.0
round_by x ForSnap r own of = of.0
round_by x ForScanner r own of = absurd own

-- once a page is saved, or the checkpoint is finished, another round follows
pub saved_so : (x : Held) (goal : Goal) → GoalStands goal → rounded x goal Saved ≡ Checkpoints (begun_by_mutator x.layout x.epoch x.number) goal
saved_so x ForFlip own = refl
saved_so x ForSnap own = refl
saved_so x ForScanner own = absurd own

pub marked_so : (x : Held) (goal : Goal) → GoalStands goal → rounded x goal Marked ≡ Checkpoints (begun_by_mutator x.layout x.epoch x.number) goal
marked_so x ForFlip own = refl
marked_so x ForSnap own = refl
marked_so x ForScanner own = absurd own

-- and where none is in progress the mutator asks for what it is to
pub asks_so : (x : Held) (goal : Goal) (number : ℕ) → GoalStands goal → rounded x goal (NoneRuns number) ≡ passes x Request (after_goal goal)
asks_so x ForFlip number own = refl
asks_so x ForSnap number own = refl
asks_so x ForScanner number own = absurd own

module _ (c : Configuration) (p : Plain) (s : Stands c p) (y : Held) (r : SavingRound) (goal : Goal) (stage : SaveRoundStage) (a : IsAlone c (at y (round r stage) goal)) where
  abbrev x : Held
  x = at y (round r stage) goal

  -- ---- what it knows

  pub mutates : GoalStands goal
  mutates = a.remembers.stands.1

  pub stands : SavesStand c x
  stands = a.stands a.is.fits.stage.room

  pub of_mutator : IsRoundOfMutator x (round r stage)
  of_mutator = round_by x goal (round r stage) mutates a.is.fits.stage.caller

  pub pages : r.layout.pages ≡ c.pages
  pages = ap (λ (l : Layout). l.pages) a.is.fits.stage.layout ∙ a.is.fits.pages

  -- SNAP is as the mutator read it when it began to run
  pub own_snap : y.snap ≡ (saves c).snap
  own_snap = (stands.knows.recalls (let room = a.is.fits.stage.room in let runs = runs_by goal mutates in rw (room, runs) refl)).snap

  -- ---- it goes on

  module _ (reply : Reply) (q : SavingRound) (same : save_round.taken (round r stage) reply ≡ q) (more : save_round.told q ≡ More) where
    turns : turned x reply ≡ at y q goal
    turns = ap (λ (z : SavingRound). turned_save_round x z goal (save_round.told z)) same ∙ ap (turned_save_round x q goal) more

    -- none of its stages is paid by a page
    pub goes_on : save_round_left c.pages stage ≡ 0 → save_round_left c.pages q.stage ≡ 0 → SaveRoundStands (saves c) q.stage → save_round.advances_at stage reply ≡ true
        → Owes c p s x (table c) reply
    goes_on none none_next known advances =
        let own = a.is.fits.stage.sound in
        let fewer : save_round.left q < save_round.left (round r stage) =
        subst (λ (z : SavingRound). save_round.left z < save_round.left (round r stage)) same (round_lowers (round r stage) stage reply own.pages own.stage advances) in
        subst (λ (z : Held). Lowers c.pages (saves c) (table c) (table c) x z) (sym turns)
        (record {
          remembers = record { began = a.remembers.began; quiet = a.remembers.quiet; stands = (known, mutates) };
          falls = omega (arith, fewer, none, none_next);
        })

  -- a load of a row
  pub loads_it : (row : WholeRow) → IsWholeRow c.pages row → wanted x ≡ Some (Load (whole_place_of r.layout.pages row))
      → Owes c p s x (table c) (Value (word_in_whole c.pages c.words row)) → StepsLower c x
  loads_it row is_row want goes =
      wants c p s x (Load (whole_place_of c.pages row)) (want ∙ ap (λ n. Some (Load (whole_place_of n row))) pages) (loads_any c p s x row is_row goes)
