-- Where the targets of weak cells lead: a cell is copied, and linked.
use Rattle.std.specs.Prelude.{◌≡◌, ℕ, ◌+◌, true, false, Some}
use Rattle.space_map.specs.declared.area_word.AreaWord.{AreaWord}
use Rattle.space_map.specs.Spaces.{to_space}
use Rattle.heap_state.specs.Cells.{Ranks, Chain}
use Rattle.heap_state.specs.Memory.Entries.{WordIs, AreaIs}
use Rattle.heap_state.specs.Memory.Era.{Era, Memory}
use Rattle.heap_state.specs.Invariant.Ghost.{Ghost}
use Rattle.heap_state.specs.Targets.{Targets}
use Rattle.heap_state.specs.Known.{Team, Linking, Copy}
use Rattle.heap_laws.specs.Copying.{published, reserved, moved_by}
use Rattle.heap_laws.specs.Steps.{Ready, WritesRow, IsAreaNow}

-- a place is reserved for a copy: FRONT rises by a place that is written
abbrev pub ReservationsCarryTargets : Type 0
ReservationsCarryTargets = (E : Era) (m later : Memory) (team : Team) (g : Ghost) (k : ℕ) (c : Copy) (area : AreaWord) → Ready E m team g k
    → (team.worker k).copy ≡ Some c → c.reserved ≡ false → c.to ≡ m.front → IsAreaNow E m area
    → WritesRow E m (Some (AreaIs (to_space E.epoch) (moved_by c.size area))) later
    → Targets E m g → Targets E later (reserved g k c.from c.to c.size)

-- the forward to a whole copy is stored: a cell's copy has the target of the old cell
abbrev pub PublishingCarriesTargets : Type 0
PublishingCarriesTargets = (E : Era) (m later : Memory) (weak turn : ℕ) (team : Team) (g : Ghost) (r : Ranks) (k : ℕ) (c : Copy) (v : ℕ) → Ready E m team g k
    → (team.worker k).copy ≡ Some c → c.reserved ≡ true → c.done ≡ c.size → WritesRow E m (Some (WordIs c.from v)) later
    → Chain E m weak turn team g r → Targets E m g → Targets E later (published g k c.from c.to)

-- a word is stored as a cell's link, by the worker that has the cell to link
abbrev pub StoringLinkCarriesTargets : Type 0
StoringLinkCarriesTargets = (E : Era) (m later : Memory) (weak turn : ℕ) (team : Team) (g : Ghost) (r : Ranks) (k : ℕ) (l : Linking) (v : ℕ) → Ready E m team g k
    → (team.worker k).linking ≡ Some l → WritesRow E m (Some (WordIs (l.cell + 2) v)) later
    → Chain E m weak turn team g r → Targets E m g → Targets E later g
