-- The store of the other space's size, which alone of all steps but the flip changes the epoch's spaces.
use Rattle.std.specs.Prelude.{◌≡◌, ℕ, ◌*◌, true, false, Some}
use Rattle.plain_state.specs.State.{Plain}
use Rattle.heap_state.specs.Cycles.Cycle.{Cycle}
use Rattle.heap_state.specs.Memory.Era.{Era, Memory, IsLaidOut}
use Rattle.heap_state.specs.Invariant.Ghost.{Ghost}
use Rattle.heap_state.specs.Invariant.Inductive.{Invariant}
use Rattle.heap_state.specs.Meaning.Values.{Shown}
use Rattle.heap_state.specs.Known.{Known, Team, Reset}
use Rattle.heap_laws.specs.Flipping.Reset.{resetting}
use Rattle.heap_laws.specs.Steps.{with_worker, Ready}
use Rattle.space_map.specs.declared.spaces.TheConstants.{PAGE_WORDS}

-- the epoch, of whose old space so many pages are in use
abbrev pub sized_era : Era → (pages : ℕ) → Era
sized_era E pages = record E { old_span = PAGE_WORDS * pages }

-- the worker whose flip has stored the size
abbrev pub after_size : Known → Reset → Known
after_size w r = resetting w (record r { sized = true })

-- The size that worker k's flip has found is stored. With the old space as large the invariant holds, the same plain state is shown,
-- and what a cycle keeps is kept. Nothing else of the memory changes.
pub record SizeKeeps (E : Era) (m : Memory) (team : Team) (g : Ghost) (k : ℕ) (r : Reset) (q : ℕ) : Type 0 where
  pub invariant : Invariant (sized_era E q) m (with_worker team k (after_size (team.worker k) r)) g
  pub shown : (p : Plain) → Shown E m team g p → Shown (sized_era E q) m (with_worker team k (after_size (team.worker k) r)) g p
  pub cycle : (p : Plain) → Cycle E m team g p → Cycle (sized_era E q) m (with_worker team k (after_size (team.worker k) r)) g p

abbrev pub SizesAreStored : Type 0
SizesAreStored = (E : Era) (m : Memory) (team : Team) (g : Ghost) (k : ℕ) (r : Reset) (q : ℕ) → Ready E m team g k
    → (team.worker k).reset ≡ Some r → r.sized ≡ false → r.grown ≡ Some q → IsLaidOut (sized_era E q)
    → SizeKeeps E m team g k r q
