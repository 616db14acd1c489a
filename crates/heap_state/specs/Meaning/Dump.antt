-- A dump of the collected heap.
use Rattle.std.specs.Prelude.{ℕ, List}
use Rattle.heap_state.specs.Configuration.{Configuration, table, team}
use Rattle.heap_state.specs.Kept.{Kept, kept_of}
use Rattle.heap_state.specs.Memory.Table.{Table}

-- what the words of the table say, what each worker keeps, the number of mutators, and the registers of each
pub record Dump : Type 0 where
  pub table : Table
  pub kept : List Kept
  pub mutators : ℕ
  pub registers : ℕ → ℕ → ℕ

abbrev pub dump_of : Configuration → Dump
dump_of c = record { table = table c; kept = kept_of c.workers; mutators = c.mutators; registers = λ k. ((team c).worker k).registers }
