-- What holds of each stage that the turn's word, a link or a target may lead to.
use Rattle.std.proofs.Common.{◌≡◌, ℕ, ◌+◌, ◌-◌, ◌<◌, ◌≤◌, nat_lt, Bool, true, false, refl, arith, ◌==◌, if◌then◌else◌}
use Rattle.std.specs.Prelude.{◌||◌}
use Rattle.std.proofs.lemmas.Bool.Decides.{nat_tests}
use Rattle.heap_words.specs.Decoded.{Decoded, PointerWord}
use Rattle.space_map.specs.Spaces.{Layout}
use Rattle.cell_walk.specs.declared.linked_cell.LinkedCell.{LinkedCell}
use Rattle.cell_walk.specs.declared.walk_end.WalkEnd.TheVariants.{Passed, Another}
use Rattle.cell_walk.specs.declared.walk_stage.WalkStage.{WalkStage}
use Rattle.cell_walk.specs.declared.walk_stage.WalkStage.TheVariants.{TakesTurn, LoadsTarget, LoadsTargetHeader, LoadsLink, Ended}
use Rattle.cell_walk.specs.Taken.{along, by_target, by_turn, is_old}

-- the next cell, where a link leads to one
pub along-next : (most at : ℕ) → 0 < most → along most (at + 1) ≡ LoadsTarget (record { at = at; most = most })
along-next most at some =
    let linked : (at + 1 == 0) ≡ false = grind (arith, nat_tests) in
    let counted : (most == 0) ≡ false = grind (arith, nat_tests) in
    let is : at + 1 - 1 ≡ at = omega arith in
    rw (linked, counted, is) refl

module _ (P : WalkStage → Type 0) where
  pub of_turn : (epoch word : ℕ) → (epoch < word → P (Ended (Another word))) → (word ≤ epoch → P (TakesTurn word)) → P (by_turn epoch word)
  of_turn epoch word late takes = by_test (nat_lt epoch word) refl
    where
      by_test : (b : Bool) → nat_lt epoch word ≡ b → P (if b then Ended (Another word) else TakesTurn word)
      by_test true test = late (grind (arith, nat_tests))
      by_test false test = takes (grind (arith, nat_tests))

  pub of_along : (most link : ℕ) → ((at : ℕ) → link ≡ at + 1 → 0 < most → P (LoadsTarget (record { at = at; most = most }))) → P (Ended Passed) → P (along most link)
  of_along most link next ends = by_tests (link == 0) (most == 0) refl refl
    where
      by_tests : (a b : Bool) → (link == 0) ≡ a → (most == 0) ≡ b
          → P (if a || b then Ended Passed else LoadsTarget (record { at = link - 1; most = most }))
      by_tests true b linked counted = ends
      by_tests false true linked counted = ends
      by_tests false false linked counted = next (link - 1) (grind (arith, nat_tests)) (grind (arith, nat_tests))

  of_old : (b : Bool) (x y : WalkStage) → (b ≡ true → P x) → P y → P (if b then x else y)
  of_old true x y here there = here refl
  of_old false x y here there = there

  pub of_target : (l : Layout) (epoch : ℕ) (cell : LinkedCell) (d : Decoded)
      → ((old : ℕ) → d ≡ PointerWord old → is_old l epoch old ≡ true → P (LoadsTargetHeader cell old))
      → P (LoadsLink cell) → P (by_target l epoch cell d)
  of_target l epoch cell (PointerWord a) looks other = of_old (is_old l epoch a) _ _ (looks a refl) other
  of_target l epoch cell _ looks other = other
