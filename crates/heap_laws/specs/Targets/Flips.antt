-- Where the targets of weak cells lead: the other space gets its size, and the heap is flipped.
use Rattle.std.specs.Prelude.{◌≡◌, ℕ, Some}
use Rattle.heap_state.specs.Memory.Era.{Era, Memory, IsLaidOut}
use Rattle.heap_state.specs.Invariant.Ghost.{Ghost}
use Rattle.heap_state.specs.Targets.{Targets}
use Rattle.heap_state.specs.Known.{Team, Reset}
use Rattle.heap_laws.specs.Flipping.Flip.{Flips, next_era, next_memory, next_ghost}
use Rattle.heap_laws.specs.Flipping.Sizes.{sized_era}
use Rattle.heap_laws.specs.Steps.{Ready}

-- the other space's size is stored, by a worker that flips
abbrev pub SizesCarryTargets : Type 0
SizesCarryTargets = (E : Era) (m : Memory) (team : Team) (g : Ghost) (k : ℕ) (z : Reset) (q : ℕ) → Ready E m team g k → (team.worker k).reset ≡ Some z → IsLaidOut (sized_era E q)
    → Targets E m g → Targets (sized_era E q) m g

-- the gate is exchanged: the old cells are those of the epoch before
abbrev pub FlippingCarriesTargets : Type 0
FlippingCarriesTargets = (E : Era) (m : Memory) (team : Team) (g : Ghost) (k : ℕ) (z : Reset) → Ready E m team g k → Flips E team k z
    → Targets E m g → Targets (next_era E) (next_memory m) (next_ghost E g)
