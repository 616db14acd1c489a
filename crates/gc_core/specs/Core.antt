-- What the machine with a collected heap is between two events.
use Rattle.std.specs.Prelude.{ℕ, List, length, true}
use Rattle.mutator_asm.specs.declared.instr.Instr.{Instr}
pub use Rattle.gc_worker.specs.Config.{has_sizes, layout_by}
use Rattle.gc_worker.specs.Laws.Between.{opening_heap}
use Rattle.gc_worker.specs.Laws.Cycles.{size_of}
use Rattle.gc_worker.specs.Laws.Step.{Heap}
use Rattle.gc_worker.specs.declared.config.Config.{Config}

-- what a core steps: the code, how many instructions a mutator may execute, and the heap with its workers
pub record CoreState : Type 0 where
  pub code : List (List Instr)
  pub turns : ℕ
  pub heap : Heap

-- the core in which a program begins: a mutator for each section, and the scanners
abbrev pub opening_core : List (List Instr) → (turns : ℕ) → Config → CoreState
opening_core code turns config = record { code = code; turns = turns; heap = opening_heap true (layout_by config) config.pages (length code) config.scanners }

-- the mutators, then the scanners
abbrev pub workers_of : CoreState → ℕ
workers_of s = length s.heap.workers

-- the pages in use of the space of its epoch
abbrev pub size_in : CoreState → ℕ
size_in s = size_of s.heap.pages s.heap.words
