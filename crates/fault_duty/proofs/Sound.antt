-- A round at its walk stays sound as the walk does.
use Rattle.std.proofs.Common.{◌≡◌, ℕ, ◌+◌, ◌*◌, ◌<◌, refl, sym, subst, ◌∙◌}
use Rattle.atom_store.specs.declared.reply.Reply.{Reply}
use Rattle.space_map.specs.Spaces.{Layout}
use Rattle.cell_walk.specs.declared.linked_cell.LinkedCell.{LinkedCell}
use Rattle.cell_walk.specs.declared.walk_end.WalkEnd.TheVariants.{Passed, Another}
use Rattle.cell_walk.specs.declared.walk_stage.WalkStage.{WalkStage}
use Rattle.cell_walk.specs.declared.walk_stage.WalkStage.TheVariants as walk_stage
use Rattle.cell_walk.specs.Soundness.{IsSound}
use Rattle.cell_walk.specs.Taken as walk_replies
use Rattle.cell_walk.specs.Walking.{Walking}
use Rattle.cell_walk.proofs.Sound.{stays_sound}
use Rattle.fault_duty.specs.declared.duty_stage.DutyStage.TheVariants.{Walks}
use Rattle.fault_duty.specs.Duty.{Round, at_stage, taken_at, walk_went}
use Rattle.fault_duty.specs.Soundness.{FitsDutyStage, IsUntraced}
use Rattle.fault_duty.specs.Theorems.{WalksStaySound}

-- where the walk is sound that a step leads to, the round's next stage fits
fits_at : (d : Round) (traced : ℕ) (v : Walking) (x : WalkStage) → IsUntraced d.epoch traced → v.layout ≡ d.layout → v.epoch ≡ d.epoch → IsSound (record v { stage = x })
    → FitsDutyStage d (walk_went traced (record v { stage = x }) (walk_replies.told x))
fits_at d traced v (walk_stage.Ended Passed) untraced layout epoch sound = untraced
fits_at d traced v (walk_stage.Ended (Another word)) untraced layout epoch sound = tt
fits_at d traced v x untraced layout epoch sound = (untraced, record { layout = layout; epoch = epoch; going = tt; sound = sound })

-- the next stage fits the round, where links lead to cells of the heap
pub walk_fits : (d next : Round) (traced : ℕ) (v : Walking) (r : Reply) → next.layout ≡ d.layout → next.epoch ≡ d.epoch
    → FitsDutyStage d (Walks traced v) → ((cell : LinkedCell) → (walk_replies.taken v r).stage ≡ walk_stage.LoadsTarget cell → cell.at + 2 < 128 * d.layout.pages)
    → FitsDutyStage next (walk_went traced (walk_replies.taken v r) (walk_replies.told (walk_replies.taken v r).stage))
walk_fits d next traced v r layout epoch fits inside =
    let own = fits.1 in
    fits_at next traced v (walk_replies.taken v r).stage (subst (λ e. IsUntraced e traced) (sym epoch) fits.0) (own.layout ∙ sym layout) (own.epoch ∙ sym epoch)
    (stays_sound v r own.sound (λ cell is. subst (λ (l : Layout). cell.at + 2 < 128 * l.pages) (sym own.layout) (inside cell is)))

pub walks_stay_sound : WalksStaySound
walks_stay_sound d traced v r sound inside =
    let now : Round = at_stage d (Walks traced v) in
    record {
      pages = sound.pages;
      caller = sound.caller;
      epoch = sound.epoch;
      worker = sound.worker;
      stage = walk_fits now (taken_at now (Walks traced v) r) traced v r refl refl sound.stage inside;
    }
