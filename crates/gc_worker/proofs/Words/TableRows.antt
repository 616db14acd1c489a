-- Checkpoints are begun only where the layout has room for them.
use Rattle.std.proofs.Common.{◌≡◌, ℕ, ◌<◌, Bool, true, false, refl, arith}
use Rattle.space_map.specs.Spaces.{Layout}
use Rattle.alloc_end.specs.Soundness.{HasRoomToMark}

pub marks_with_room : (layout : Layout) (snap : ℕ) → HasRoomToMark layout snap → 0 < snap → layout.checkpoints ≡ true
marks_with_room layout snap room some = by_test layout.checkpoints refl
  where
    by_test : (b : Bool) → layout.checkpoints ≡ b → layout.checkpoints ≡ true
    by_test true is = is
    by_test false is = let none = room is in absurd (omega (arith, none, some))
