-- Where the targets of weak cells lead: pages are claimed for new records, and a record is placed that may be a cell.
use Rattle.std.specs.Prelude.{◌≡◌, ℕ, ◌+◌, ◌⊎◌, Some}
use Rattle.plain_state.specs.declared.kind.Kind.{Kind}
use Rattle.plain_state.specs.declared.kind.Kind.TheVariants.{Weak}
use Rattle.space_map.specs.declared.area_word.AreaWord.{AreaWord}
use Rattle.space_map.specs.Spaces.{to_space}
use Rattle.heap_state.specs.Cells.{Ranks, Chain}
use Rattle.heap_state.specs.Memory.Entries.{WordIs, AreaIs}
use Rattle.heap_state.specs.Memory.Era.{Era, Memory}
use Rattle.heap_state.specs.Invariant.Ghost.{Ghost}
use Rattle.heap_state.specs.Targets.{Targets}
use Rattle.heap_state.specs.Known.{Team, Stock}
use Rattle.heap_laws.specs.Allocation.Records.{PlacesNext, allocated, next_identity}
use Rattle.heap_laws.specs.Allocation.Stocks.{HasRoomForPages, lowered}
use Rattle.heap_laws.specs.Fields.Held.{MayHold}
use Rattle.heap_laws.specs.Steps.{Ready, WritesRow, IsAreaNow}

-- ---- pages

-- LOW falls by pages on which no record stands
abbrev pub ClaimingCarriesTargets : Type 0
ClaimingCarriesTargets = (E : Era) (m later : Memory) (team : Team) (g : Ghost) (k n owed : ℕ) (area : AreaWord) → Ready E m team g k
    → IsAreaNow E m area → HasRoomForPages E m area n owed → WritesRow E m (Some (AreaIs (to_space E.epoch) (lowered area n owed))) later
    → Targets E m g → Targets E later g

-- ---- records

-- the word may stand as the target of a new cell: it is 0, or one that a mutator may hold
abbrev pub MayBeTarget : Era → Ghost → ℕ → Type 0
MayBeTarget E g word = (word ≡ 0) ⊎ MayHold E g.size g.writer word

-- the header of a new record is stored; behind that of a cell stands what may be its target
abbrev pub PlacingCarriesTargets : Type 0
PlacingCarriesTargets = (E : Era) (m later : Memory) (weak turn : ℕ) (team : Team) (g : Ghost) (r : Ranks) (k : ℕ) (s : Stock) (c : Kind) (z v target : ℕ) → Ready E m team g k
    → PlacesNext team k s c z v target → (c ≡ Weak → MayBeTarget E g (m.heap (s.at + 1))) → WritesRow E m (Some (WordIs s.at v)) later
    → Chain E m weak turn team g r → Targets E m g → Targets E later (allocated g s.at z c (next_identity team k))

-- behind the place of a new cell stands the target that is stored ahead of its header
abbrev pub NewTargetsAreStored : Type 0
NewTargetsAreStored = (E : Era) (m : Memory) (team : Team) (g : Ghost) (k : ℕ) (s : Stock) (z v target : ℕ) → Ready E m team g k → PlacesNext team k s Weak z v target
    → m.heap (s.at + 1) ≡ target
