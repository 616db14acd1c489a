-- From the laws to configurations, once for all: a step writes a row of the table, or none, and one worker becomes another.
use Rattle.std.specs.Prelude.{◌≡◌, ℕ, ◌+◌, ◌<◌, ⊤, false, List, length, Option, Some, None, slice_set, ◌≤◌}
use Rattle.plain_state.specs.State.{Plain}
use Rattle.space_map.specs.PageWord.{age_of}
use Rattle.space_map.specs.declared.gate_word.GateWord.{GateWord}
use Rattle.space_map.specs.GateWord.{GateFits}
use Rattle.heap_state.specs.Configuration.{Configuration, Stands, table, era, memory, team}
use Rattle.heap_state.specs.Cycles.Cycle.{Cycle}
use Rattle.heap_state.specs.Memory.Entries.{whole_place_of, Entry, row_of, word_of, EntryFits, with_entry, GateIs, SizeIs}
use Rattle.heap_state.specs.Invariant.Ghost.{Ghost}
use Rattle.heap_state.specs.Memory.Era.{from_space}
use Rattle.heap_state.specs.Memory.Table.{Table}
use Rattle.heap_state.specs.Known.{Known, Reset}
use Rattle.heap_laws.specs.Steps.{Ready, Steps, StepsTo}
use Rattle.heap_laws.specs.Flipping.Flip.{Flips, flipped_gate, after_flip, next_ghost}
use Rattle.heap_laws.specs.Flipping.Sizes.{after_size}

-- ---- one step

-- the words after a row is written, or none
abbrev pub words_after_row : ℕ → List ℕ → Option Entry → List ℕ
words_after_row n words None = words
words_after_row n words (Some e) = slice_set words (whole_place_of n (row_of e)) (word_of e)

-- what the table says then
abbrev pub table_after : Table → Option Entry → Table
table_after t None = t
table_after t (Some e) = with_entry e t

-- the row can be written
abbrev pub RowFits : ℕ → Option Entry → Type 0
RowFits n None = ⊤
RowFits n (Some e) = EntryFits n e

-- a row is written, or none, and worker k becomes another
abbrev pub configuration_after : Configuration → Option Entry → ℕ → Known → Configuration
configuration_after c e k w = record c { words = words_after_row c.pages c.words e; workers = slice_set c.workers k w }

-- ---- the lifting

-- each worker of a configuration that stands is ready for a step
abbrev pub StandingIsReady : Type 0
StandingIsReady = (c : Configuration) (p : Plain) (s : Stands c p) (k : ℕ) → k < length c.workers → Ready (era c) (memory c) (team c) s.ghost k

-- A configuration stands after a step where its table and team keep the invariant and show a plain state, with this of what
-- the proofs know beside.
pub record StandsWith (c : Configuration) (p : Plain) (g : Ghost) : Type 0 where
  pub stands : Stands c p
  pub with_ghost : stands.ghost ≡ g

-- The step of worker k leaves a configuration that stands for the plain state q. The row that it writes is one of the table, what
-- a cycle kept of the earlier configuration it keeps of this, no page word's epoch fell, and the gate's epoch is as it was.
pub record LeavesConfiguration (c : Configuration) (e : Option Entry) (k : ℕ) (w : Known) (q : Plain) (g h : Ghost) : Type 0 where
  pub fits : RowFits c.pages e
  pub standing : StandsWith (configuration_after c e k w) q h
  pub cycle : (o : Plain) → Cycle (era c) (memory c) (team c) g o → Cycle (era (configuration_after c e k w)) (memory (configuration_after c e k w)) (team (configuration_after c e k w)) h o
  pub ages : (page : ℕ) → age_of ((table c).page page) ≤ age_of ((table (configuration_after c e k w)).page page)
  pub epoch : (era (configuration_after c e k w)).epoch ≡ (era c).epoch

-- what a law says of a step is so of each configuration that stands
abbrev pub StepsAreLifted : Type 0
StepsAreLifted = (c : Configuration) (p : Plain) (s : Stands c p) (e : Option Entry) (k : ℕ) (w : Known) (h : Ghost) → k < length c.workers
    → Steps (era c) (memory c) (team c) s.ghost k e w h → LeavesConfiguration c e k w p s.ghost h

-- the same of a step of the plain machine
abbrev pub PlainStepsAreLifted : Type 0
PlainStepsAreLifted = (c : Configuration) (p q : Plain) (s : Stands c p) (e : Option Entry) (k : ℕ) (w : Known) (h : Ghost) → k < length c.workers
    → StepsTo (era c) (memory c) (team c) s.ghost k e w h q → LeavesConfiguration c e k w q s.ghost h

-- The store of the other space's size leaves a configuration that stands for the same plain state.
abbrev pub SizesAreLifted : Type 0
SizesAreLifted = (c : Configuration) (p : Plain) (s : Stands c p) (k : ℕ) (r : Reset) (q : ℕ) → k < length c.workers
    → ((team c).worker k).reset ≡ Some r → r.sized ≡ false → r.grown ≡ Some q → q ≤ c.pages
    → LeavesConfiguration c (Some (SizeIs (from_space (era c).epoch) q)) k (after_size ((team c).worker k) r) p s.ghost s.ghost

-- The flip leaves a configuration that stands for the same plain state, of which a cycle begins. The gate's word fits and says
-- the next epoch, and no page word changed.
pub record Flipped (c : Configuration) (gate : GateWord) (k : ℕ) (w : Known) (p : Plain) (h : Ghost) : Type 0 where
  pub fits : GateFits gate
  pub standing : StandsWith (configuration_after c (Some (GateIs gate)) k w) p h
  pub begins : Cycle (era (configuration_after c (Some (GateIs gate)) k w)) (memory (configuration_after c (Some (GateIs gate)) k w)) (team (configuration_after c (Some (GateIs gate)) k w)) h p
  pub pages : (table (configuration_after c (Some (GateIs gate)) k w)).page ≡ (table c).page
  pub epoch : (era (configuration_after c (Some (GateIs gate)) k w)).epoch ≡ (era c).epoch + 1

abbrev pub FlipsAreLifted : Type 0
FlipsAreLifted = (c : Configuration) (p : Plain) (s : Stands c p) (k : ℕ) (r : Reset) → k < length c.workers → Flips (era c) (team c) k r
    → Flipped c (flipped_gate r.read) k (after_flip ((team c).worker k)) p (next_ghost (era c) s.ghost)
