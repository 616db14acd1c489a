-- What a heap with its workers represents.
use Rattle.std.specs.Prelude.{⊤, Bool, true, false}
use Rattle.plain_state.specs.State.{Plain}
use Rattle.plain_heap.specs.Calls.{KeepsCheckpoint}
use Rattle.heap_state.specs.Meaning.Represents.{Represents}
use Rattle.gc_worker.specs.Laws.Step.{Heap, read, WorkersStand}

-- The second plain state has kept what the first has, if checkpoints can be begun: what is represented is the heap of now alone.
abbrev pub HasKept : (checkpoints : Bool) → (p q : Plain) → Type 0
HasKept true p q = KeepsCheckpoint p.heap q.heap
HasKept false p q = ⊤

-- What stands for one plain state stands for each that its words, with what its workers keep, represent, and that has kept the same
-- checkpoint: a law of all that it stands for is one of all that they represent.
abbrev pub RepresentedWorkersStand : Type 0
RepresentedWorkersStand = (h : Heap) (p q o : Plain) → WorkersStand h p o → Represents (read h) q → HasKept h.checkpoints p q → WorkersStand h q o
