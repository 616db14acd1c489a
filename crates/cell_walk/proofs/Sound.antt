-- What the walk keeps of itself.
use Rattle.std.proofs.Common.{◌≡◌, ℕ, ◌+◌, ◌-◌, ◌*◌, ◌<◌, inl, inr, refl, arith}
use Rattle.atom_store.specs.declared.reply.Reply.{Reply}
use Rattle.atom_store.specs.declared.reply.Reply.TheVariants.{Value, Done, Won, Lost}
use Rattle.heap_words.specs.Decoded.{Decoded, ForwardWord, decode}
use Rattle.heap_words.proofs.Ranges.{forward_bounds}
use Rattle.space_map.specs.Spaces.{Layout}
use Rattle.cell_walk.specs.declared.linked_cell.LinkedCell.{LinkedCell}
use Rattle.cell_walk.specs.declared.walk_stage.WalkStage.{WalkStage}
use Rattle.cell_walk.specs.declared.walk_stage.WalkStage.TheVariants.{LoadsTurn, TakesTurn, LoadsWeak, LoadsTarget, LoadsTargetHeader, StoresTarget, LoadsLink}
use Rattle.cell_walk.specs.Soundness.{FitsStage, IsReplacement}
use Rattle.cell_walk.specs.Taken.{replacement, stage_after}
use Rattle.cell_walk.specs.Theorems.{StaysSound}
use Rattle.cell_walk.specs.Walking.{most_cells}
use Rattle.cell_walk.proofs.Along.{of_along, of_target, of_turn}

replaced_so : (w : ℕ) (d : Decoded) → decode w ≡ d → IsReplacement (replacement d)
replaced_so w (ForwardWord len address) is = inr (address, (forward_bounds w len address is).1, refl)
replaced_so w _ is = inl refl

module _ (l : Layout) (epoch : ℕ) where
  -- it fits, where it is at no cell but one in the heap
  abbrev Fits : WalkStage → Type 0
  Fits z = ((cell : LinkedCell) → z ≡ LoadsTarget cell → cell.at + 2 < 128 * l.pages) → FitsStage l epoch z

  fits_after : (x : WalkStage) (r : Reply) → FitsStage l epoch x → Fits (stage_after l epoch x r)
  fits_after LoadsTurn (Value w) fits = of_turn Fits epoch w (λ past inside. tt) (λ before inside. before)
  fits_after (TakesTurn found) Won fits = λ inside. tt
  fits_after (TakesTurn found) (Lost w) fits = λ inside. tt
  fits_after LoadsWeak (Value w) fits = of_along Fits (most_cells l.pages) w
      (λ at is some inside. record { inside = inside (record { at = at; most = most_cells l.pages }) refl; some = some; few = omega arith })
      (λ inside. tt)
  fits_after (LoadsTarget cell) (Value w) fits = of_target Fits l epoch cell (decode w) (λ old leads back inside. (fits, back)) (λ inside. fits)
  fits_after (LoadsTargetHeader cell old) (Value w) fits = λ inside. (fits.0, replaced_so w (decode w) refl)
  fits_after (StoresTarget cell word) Done fits = λ inside. fits.0
  fits_after (LoadsLink cell) (Value w) fits = of_along Fits (cell.most - 1) w
      (λ at is some inside. record {
        inside = inside (record { at = at; most = cell.most - 1 }) refl;
        some = some;
        few = (let few = fits.few in omega arith);
      })
      (λ inside. tt)
  fits_after x r fits = λ inside. fits

pub stays_sound : StaysSound
stays_sound v r sound inside = record { pages = sound.pages; fits = fits_after v.layout v.epoch v.stage r sound.fits inside }
