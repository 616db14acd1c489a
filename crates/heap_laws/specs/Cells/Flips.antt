-- The chain of copied cells ends at the flip: WEAK is stored, and the gate is exchanged. And a record is placed that may be a cell.
use Rattle.std.specs.Prelude.{◌≡◌, ℕ, true, Some}
use Rattle.plain_state.specs.declared.kind.Kind.{Kind}
use Rattle.plain_state.specs.declared.kind.Kind.TheVariants.{Weak}
use Rattle.heap_state.specs.Cells.{Ranks, no_ranks, Chain}
use Rattle.heap_state.specs.Memory.Entries.{WordIs, WeakIs}
use Rattle.heap_state.specs.Memory.Era.{Era, Memory}
use Rattle.heap_state.specs.Invariant.Ghost.{Ghost}
use Rattle.heap_state.specs.Known.{Known, Team, Reset, Stock}
use Rattle.heap_laws.specs.Allocation.Records.{PlacesNext, allocated, next_identity}
use Rattle.heap_laws.specs.Cells.Frames.{GoesOnInChain}
use Rattle.heap_laws.specs.Flipping.Flip.{Flips, next_era, next_memory, next_ghost, after_flip}
use Rattle.heap_laws.specs.Flipping.Sizes.{sized_era, after_size}
use Rattle.heap_laws.specs.Steps.{Ready, WritesRow, with_worker}

-- ---- the flip

-- the other space's size is stored
abbrev pub SizesCarryChain : Type 0
SizesCarryChain = (E : Era) (m : Memory) (weak turn : ℕ) (team : Team) (g : Ghost) (r : Ranks) (k : ℕ) (z : Reset) (q : ℕ) → Ready E m team g k → (team.worker k).reset ≡ Some z
    → Chain E m weak turn team g r → Chain (sized_era E q) m weak turn (with_worker team k (after_size (team.worker k) z)) g r

-- WEAK is stored, by a worker that flips
abbrev pub ClearingWeakCarriesChain : Type 0
ClearingWeakCarriesChain = (E : Era) (m later : Memory) (weak turn : ℕ) (team : Team) (g : Ghost) (r : Ranks) (k : ℕ) (z : Reset) (w : Known) → Ready E m team g k
    → (team.worker k).reset ≡ Some z → w.linking ≡ (team.worker k).linking → w.pass ≡ (team.worker k).pass → WritesRow E m (Some (WeakIs 0)) later
    → Chain E m weak turn team g r → Chain E later 0 turn (with_worker team k w) g r

-- the gate is exchanged: nothing is copied or linked
abbrev pub FlippingCarriesChain : Type 0
FlippingCarriesChain = (E : Era) (m : Memory) (weak turn : ℕ) (team : Team) (g : Ghost) (r : Ranks) (k : ℕ) (z : Reset) → Ready E m team g k → Flips E team k z → z.cleared ≡ true
    → Chain E m weak turn team g r → Chain (next_era E) (next_memory m) weak turn (with_worker team k (after_flip (team.worker k))) (next_ghost E g) no_ranks

-- ---- new records

-- the header of a new record is stored; a cell is one of three words
abbrev pub PlacingCarriesChain : Type 0
PlacingCarriesChain = (E : Era) (m later : Memory) (weak turn : ℕ) (team : Team) (g : Ghost) (r : Ranks) (k : ℕ) (s : Stock) (c : Kind) (z v target : ℕ) (w : Known) → Ready E m team g k
    → PlacesNext team k s c z v target → (c ≡ Weak → z ≡ 3) → WritesRow E m (Some (WordIs s.at v)) later → GoesOnInChain E w (team.worker k)
    → Chain E m weak turn team g r → Chain E later weak turn (with_worker team k w) (allocated g s.at z c (next_identity team k)) r
