-- What the collector has copied, once an epoch is traced, and what a mutator that finds the heap full says of it.
use Rattle.std.specs.Prelude.{ℕ}
use Rattle.plain_state.specs.Reachable.{IsLive}
use Rattle.plain_state.specs.State.{Plain}
use Rattle.heap_state.specs.Cycles.Copies.{CopiedIsLive}
use Rattle.gc_worker.specs.Plain.Full.{FindsNoRoom}
use Rattle.gc_worker.specs.Workers.Held.{Held}
use Rattle.gc_worker.specs.Laws.Step.{Heap, IsTracedIn, read, WorkersStand}

-- the gate's epoch is traced
abbrev pub IsTraced : Heap → Type 0
IsTraced h = IsTracedIn h.pages h.words

-- what was copied in it is what was live at its flip, of which o is the plain state
abbrev pub CopiedWasLive : Type 0
CopiedWasLive = (h : Heap) (p o : Plain) → WorkersStand h p o → IsTraced h → CopiedIsLive (read h) o

-- so are the words that the end of a mutator which finds the heap full tells as live
abbrev pub FullTellsLive : Type 0
FullTellsLive = (h : Heap) (p o : Plain) (x : Held) (asked room live : ℕ) → WorkersStand h p o → FindsNoRoom h.pages h.words x asked room live → IsLive o live
