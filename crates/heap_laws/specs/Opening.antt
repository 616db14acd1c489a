-- The heap before its first step.
use Rattle.std.specs.Prelude.{ℕ, ◌+◌, ◌*◌, ◌≤◌, List, [], ◌∷◌, ◌++◌, replicate, None}
use Rattle.plain_state.specs.declared.value.Value.TheVariants.{Number}
use Rattle.plain_state.specs.State as plain
use Rattle.space_map.specs.Spaces.{IsPageCount, board_page}
use Rattle.space_map.specs.declared.page_word.PageWord.TheVariants.{Open}
use Rattle.heap_state.specs.Configuration.{Configuration, Stands, era, memory, team}
use Rattle.heap_state.specs.Cycles.Cycle.{Cycle}
use Rattle.heap_state.specs.Memory.Entries.{Entry, TracedIs, AreaIs, WeakTurnIs, SizeIs, PageIs, written}
use Rattle.heap_state.specs.Known.{Known, Outside, Scanner, fresh}
use Rattle.heap_laws.specs.Flipping.Reset.{whole_area}
use Rattle.space_map.specs.declared.spaces.TheConstants.{PAGE_WORDS, MOST_MUTATORS, MOST_SCANNERS}

-- ---- the table

-- both spaces are empty with the least number of pages in use, the epoch is traced and its turn was taken, the board is open, and
-- every other word is 0
abbrev pub opening_entries : (n least : ℕ) → List Entry
opening_entries n least =
    TracedIs 1
    ∷ AreaIs 0 (whole_area (PAGE_WORDS * least) 0)
    ∷ AreaIs 1 (whole_area (PAGE_WORDS * least) 0)
    ∷ WeakTurnIs 1
    ∷ SizeIs 0 least
    ∷ SizeIs 1 least
    ∷ PageIs (board_page n) (Open 0)
    ∷ []

-- ---- the workers

-- mutators that have not entered, then scanners
abbrev pub opening_workers : (mutators scanners : ℕ) → List Known
opening_workers mutators scanners = replicate mutators (fresh Outside) ++ replicate scanners (fresh Scanner)

abbrev pub opening_configuration : (n least mutators scanners : ℕ) → Configuration
opening_configuration n least mutators scanners = record {
  pages = n;
  words = written n (opening_entries n least);
  mutators = mutators;
  workers = opening_workers mutators scanners;
}

-- ---- the plain state

abbrev pub opening_mutator : plain.Mutator
opening_mutator = record { counter = 0; registers = replicate 8 (Number 0); printed = []; executed = 0; end = None }

-- no mutator has made a record or a step, and the board is all 0
abbrev pub opening_plain : ℕ → plain.Plain
opening_plain mutators = record {
  heap = record { records = replicate mutators []; board = replicate 16 (Number 0); snaps = 0; snapped = plain.none_snapped };
  mutators = replicate mutators opening_mutator;
}

-- ---- the law

-- the configuration stands for the plain state, and keeps what a cycle keeps that begins in it
pub record BeginsCycle (c : Configuration) (p : plain.Plain) : Type 0 where
  pub stands : Stands c p
  pub cycle : Cycle (era c) (memory c) (team c) stands.ghost p

abbrev pub OpeningStands : Type 0
OpeningStands = (n least mutators scanners : ℕ) → IsPageCount n → 4 ≤ least → least ≤ n → mutators ≤ MOST_MUTATORS → mutators + scanners ≤ MOST_MUTATORS + MOST_SCANNERS
    → BeginsCycle (opening_configuration n least mutators scanners) (opening_plain mutators)
