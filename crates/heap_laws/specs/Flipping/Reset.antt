-- What a flipper does before the flip: it waits until nobody runs and nobody is behind, reads the size and the words in use, and
-- stores the size and the area of the other space, and WEAK. The store of the size is a law of its own.
use Rattle.std.specs.Prelude.{◌≡◌, ℕ, ◌+◌, ◌*◌, ◌≤◌, true, false, Some, None}
use Rattle.space_map.specs.declared.area_word.AreaWord.{AreaWord}
use Rattle.space_map.specs.declared.gate_word.GateWord.{GateWord}
use Rattle.space_map.specs.AreaWord.{AreaFits}
use Rattle.heap_state.specs.Memory.Era.{Era, Memory, from_space}
use Rattle.heap_state.specs.Invariant.Ghost.{Ghost}
use Rattle.heap_state.specs.Known.{Known, Team, Reset, is_flipper}
use Rattle.heap_state.specs.Memory.Entries.{AreaIs, WeakIs}
use Rattle.heap_laws.specs.Steps.{Ready, Steps}
use Rattle.space_map.specs.declared.spaces.TheConstants.{PAGE_WORDS}

-- the worker whose flip is so far
abbrev pub resetting : Known → Reset → Known
resetting w r = record w { reset = Some r }

-- what is known of a flip once the gate is read
abbrev pub found_still : GateWord → Reset
found_still gate = record { read = gate; size = None; grown = None; used = None; sized = false; stored = false; cleared = false }

-- the gate is read, with nobody running and nobody behind
abbrev pub FindingStillKeeps : Type 0
FindingStillKeeps = (E : Era) (m : Memory) (team : Team) (g : Ghost) (k : ℕ) → Ready E m team g k
    → is_flipper (team.worker k).post ≡ true → (team.worker k).reset ≡ None → m.gate.running ≡ 0 → m.gate.behind ≡ 0
    → Steps E m team g k None (resetting (team.worker k) (found_still m.gate)) g

-- SIZE is read: p pages of the space are in use
abbrev pub ReadingSizeKeeps : Type 0
ReadingSizeKeeps = (E : Era) (m : Memory) (team : Team) (g : Ghost) (k : ℕ) (r : Reset) (p : ℕ) → Ready E m team g k
    → (team.worker k).reset ≡ Some r → E.span ≡ PAGE_WORDS * p
    → Steps E m team g k None (resetting (team.worker k) (record r { size = Some p })) g

-- AREA is read: u words of the space are in use, and the other one gets q pages, no fewer than this one has
abbrev pub ReadingUsedKeeps : Type 0
ReadingUsedKeeps = (E : Era) (m : Memory) (team : Team) (g : Ghost) (k : ℕ) (r : Reset) (u q : ℕ) → Ready E m team g k
    → (team.worker k).reset ≡ Some r → r.sized ≡ false → u + m.low ≡ E.span + m.front → E.span ≤ PAGE_WORDS * q
    → Steps E m team g k None (resetting (team.worker k) (record r { grown = Some q; used = Some u })) g

-- the area word of a space of so many words, of which nothing is in use, and so many are owed
abbrev pub whole_area : (span owed : ℕ) → AreaWord
whole_area span owed = record { front = 0; low = span; owed = owed }

-- the other space's area is stored
abbrev pub StoringAreaKeeps : Type 0
StoringAreaKeeps = (E : Era) (m : Memory) (team : Team) (g : Ghost) (k : ℕ) (r : Reset) (u : ℕ) → Ready E m team g k
    → (team.worker k).reset ≡ Some r → r.sized ≡ true → r.used ≡ Some u → AreaFits (whole_area E.old_span u)
    → Steps E m team g k (Some (AreaIs (from_space E.epoch) (whole_area E.old_span u))) (resetting (team.worker k) (record r { stored = true })) g

-- WEAK is stored: no cell is linked
abbrev pub ClearingWeakKeeps : Type 0
ClearingWeakKeeps = (E : Era) (m : Memory) (team : Team) (g : Ghost) (k : ℕ) (r : Reset) → Ready E m team g k → (team.worker k).reset ≡ Some r
    → Steps E m team g k (Some (WeakIs 0)) (resetting (team.worker k) (record r { cleared = true })) g
