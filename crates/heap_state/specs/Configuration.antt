-- The collected heap with its workers between two steps, and what its proofs keep of it.
use Rattle.std.specs.Prelude.{ℕ, List, length, slice_index_or}
use Rattle.plain_state.specs.State.{Plain}
use Rattle.space_map.specs.Spaces.{IsPageCount}
use Rattle.heap_state.specs.Memory.Era.{Era, era_of, Memory, memory_of}
use Rattle.heap_state.specs.Invariant.Ghost.{Ghost}
use Rattle.heap_state.specs.Invariant.Inductive.{Invariant}
use Rattle.heap_state.specs.Memory.Table.{Table, table_of, IsFormed}
use Rattle.heap_state.specs.Meaning.Values.{Shown}
use Rattle.heap_state.specs.Known.{Known, Team, Scanner, fresh}

-- the pages of a space, the words of the table, the number of mutators, and all workers: the mutators first, then the
-- scanners
pub record Configuration : Type 0 where
  pub pages : ℕ
  pub words : List ℕ
  pub mutators : ℕ
  pub workers : List Known

abbrev pub table : Configuration → Table
table c = table_of c.pages c.words

abbrev pub era : Configuration → Era
era c = era_of (table c)

abbrev pub memory : Configuration → Memory
memory c = memory_of (table c)

-- the workers by their numbers
abbrev pub team_of : ℕ → List Known → Team
team_of mutators workers = record { mutators = mutators; count = length workers; worker = λ k. slice_index_or workers k (fresh Scanner) }

abbrev pub team : Configuration → Team
team c = team_of c.mutators c.workers

-- With what the proofs know beside, the configuration keeps the invariant and shows the plain state. This is what each step
-- keeps.
pub record Stands (c : Configuration) (p : Plain) : Type 0 where
  pub size : IsPageCount c.pages
  pub formed : IsFormed c.pages c.words
  pub ghost : Ghost
  pub invariant : Invariant (era c) (memory c) (team c) ghost
  pub shown : Shown (era c) (memory c) (team c) ghost p
