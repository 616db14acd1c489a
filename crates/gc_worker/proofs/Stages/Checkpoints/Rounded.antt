-- A round for the checkpoint in progress ends: a mutator requests what it is to, or makes another round; a scanner goes on with its duty.
use Rattle.std.proofs.Common.{◌≡◌, ℕ, refl}
use Rattle.gate_core.specs.declared.passage.Passage.TheVariants.{Request}
use Rattle.page_saves.specs.declared.save_round_end.SaveRoundEnd.{SaveRoundEnd}
use Rattle.page_saves.specs.declared.save_round_end.SaveRoundEnd.TheVariants.{NoneRuns, Saved}
use Rattle.page_saves.specs.SaveRound.{SavingRound}
use Rattle.gc_worker.specs.declared.stage.after.After.TheVariants as afters
use Rattle.gc_worker.specs.declared.stage.back.Back.TheVariants.{ToScanner}
use Rattle.gc_worker.specs.declared.stage.goal.Goal.{Goal}
use Rattle.gc_worker.specs.declared.stage.goal.Goal.TheVariants.{ForFlip, ForSnap, ForScanner}
use Rattle.gc_worker.specs.declared.stage.Stage.TheVariants.{Checkpoints}
use Rattle.gc_worker.specs.Workers.Fits.{Fits}
use Rattle.gc_worker.specs.Workers.Held.{Held, at_stage}
use Rattle.gc_worker.specs.Workers.Knows.{knows}
use Rattle.gc_worker.specs.Steps.Turned.{rounded}
use Rattle.gc_worker.proofs.Workers.KeptParts.{before_passage}
use Rattle.gc_worker.proofs.Workers.Checkpointing.{round_for_flip, round_for_snap}
use Rattle.gc_worker.proofs.Workers.GoingBack.{back_fits}

module _ (y : Held) (r : SavingRound) where
  abbrev pub at : Goal → Held
  at goal = at_stage y (Checkpoints r goal)

  -- it knows what it knew
  pub rounded_known : (goal : Goal) (result : SaveRoundEnd) → knows (at goal) ≡ knows (at_stage (at goal) (rounded (at goal) goal result))
  rounded_known ForScanner _ = refl
  rounded_known _ (NoneRuns _) = refl
  rounded_known _ _ = refl

  module _ (n mutators k : ℕ) where
    abbrev FitsAt : Goal → Type 0
    FitsAt goal = Fits n mutators k (at goal)

    -- before a flip or a checkpoint the mutator makes another round
    another_for_flip : (f : FitsAt ForFlip) → Fits n mutators k (at_stage (at ForFlip) (rounded (at ForFlip) ForFlip Saved))
    another_for_flip f = round_for_flip n mutators k (at ForFlip) f f.end f.stage.room f.side f.task f.stage.caller.1

    another_for_snap : (f : FitsAt ForSnap) → Fits n mutators k (at_stage (at ForSnap) (rounded (at ForSnap) ForSnap Saved))
    another_for_snap f = round_for_snap n mutators k (at ForSnap) f f.end f.stage.room f.side f.task f.stage.caller.1

    pub rounded_fits : (goal : Goal) (result : SaveRoundEnd) → FitsAt goal → Fits n mutators k (at_stage (at goal) (rounded (at goal) goal result))
    rounded_fits ForScanner result f = back_fits n mutators k (at ForScanner) f f.end ToScanner f.stage.caller.no_run f.side f.task
    rounded_fits ForFlip (NoneRuns number) f = before_passage n mutators k (at ForFlip) f Request afters.Places f.end f.side f.task f.stage.caller.1
    rounded_fits ForSnap (NoneRuns number) f = before_passage n mutators k (at ForSnap) f Request afters.Snaps f.end f.side f.task f.stage.caller.1
    rounded_fits ForFlip _ f = another_for_flip f
    rounded_fits ForSnap _ f = another_for_snap f
