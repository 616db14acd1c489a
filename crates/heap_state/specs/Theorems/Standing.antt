-- What is proved of what keeps the invariant.
use Rattle.std.specs.Prelude.{◌≡◌, ℕ, ◌+◌, ◌<◌, Some}
use Rattle.space_map.specs.declared.page_word.PageWord.{PageWord}
use Rattle.plain_state.specs.State.{Plain}
use Rattle.heap_state.specs.Configuration.{Configuration, Stands, era, memory, team}
use Rattle.heap_state.specs.Cycles.Cycle.{Cycle}
use Rattle.heap_state.specs.Memory.Era.{Era, Memory}
use Rattle.heap_state.specs.Invariant.Ghost.{Ghost}
use Rattle.heap_state.specs.Invariant.Inductive.{Invariant}
use Rattle.heap_state.specs.Invariant.Parts.Pages.{Quiet}
use Rattle.space_map.specs.declared.page_word.PageWord.TheVariants.{Scanning}
use Rattle.heap_state.specs.Invariant.Holds.{Holds}
use Rattle.heap_state.specs.Meaning.Represents.{Represents}
use Rattle.heap_state.specs.Known.{Team, Copy, Scan}
use Rattle.space_map.specs.Spaces.{first_word}
use Rattle.space_map.specs.declared.spaces.TheConstants.{PAGE_WORDS}

-- ---- what stands

-- what keeps the invariant of the proofs, and shows a plain state, holds and represents that state
pub record IsSound (c : Configuration) (p : Plain) : Type 0 where
  pub holds : Holds c
  pub represents : Represents c p

abbrev pub StandingIsSound : Type 0
StandingIsSound = (c : Configuration) (p : Plain) → Stands c p → IsSound c p

-- what keeps the invariant of the proofs and shows one plain state shows each that it represents
abbrev pub RepresentedStands : Type 0
RepresentedStands = (c : Configuration) (p q : Plain) → Stands c p → Represents c q → Stands c q

-- the same of what also keeps what a cycle keeps, with the plain state o at its flip
pub record StandsInCycle (c : Configuration) (p o : Plain) : Type 0 where
  pub stands : Stands c p
  pub cycle : Cycle (era c) (memory c) (team c) stands.ghost o

abbrev pub RepresentedStandsInCycle : Type 0
RepresentedStandsInCycle = (c : Configuration) (p q o : Plain) → StandsInCycle c p o → Represents c q → StandsInCycle c q o

-- ---- what stands still

-- the worker scans the filling page
pub record ScansFillingPage (E : Era) (front : ℕ) (page : ℕ → PageWord) (k : ℕ) : Type 0 where
  pub page_number : ℕ
  pub begun : first_word page_number < front
  pub filling : front < first_word page_number + PAGE_WORDS
  pub scanned : page page_number ≡ Scanning E.epoch k

-- Where all is quiet, who copies scans the filling page, and so nobody else copies. Where the epoch is traced nobody scans or
-- copies, and no place is written.
pub record StandsStill (E : Era) (m : Memory) (team : Team) (g : Ghost) : Type 0 where
  pub still : (k : ℕ) (c : Copy) → k < team.count → (team.worker k).copy ≡ Some c → Quiet E m.gate.behind m.front m.page → ScansFillingPage E m.front m.page k
  pub nobody_scans : m.traced ≡ E.epoch + 1 → (k : ℕ) (s : Scan) → k < team.count → (team.worker k).scan ≡ Some s → ⊥
  pub nobody_copies : m.traced ≡ E.epoch + 1 → (k : ℕ) (c : Copy) → k < team.count → (team.worker k).copy ≡ Some c → ⊥
  pub nobody_writes : m.traced ≡ E.epoch + 1 → (b : ℕ) → 0 < g.size b → g.writer b ≡ 0

abbrev pub QuietStandsStill : Type 0
QuietStandsStill = (E : Era) (m : Memory) (t : Team) (g : Ghost) → Invariant E m t g → StandsStill E m t g
