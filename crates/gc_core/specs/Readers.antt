-- What the readers of a core tell.
use Rattle.std.specs.Prelude.{ℕ, List, Option}
use Rattle.plain_heap.specs.Print.{Seen}
use Rattle.heap_state.specs.Kept.{Kept}
use Rattle.gc_worker.specs.Workers.Held.{Held}
use Rattle.gc_worker.specs.Readers as heap
use Rattle.gc_core.specs.Core.{CoreState}

abbrev pub mutators_in : CoreState → List Held
mutators_in s = heap.mutators_in s.heap

-- what is seen of each mutator
abbrev pub seen_of : CoreState → List Seen
seen_of s = heap.seen_in s.heap

-- the words in the registers of each mutator
abbrev pub registers_in : CoreState → List (List ℕ)
registers_in s = heap.registers_in s.heap

-- what each worker keeps for all others to read
abbrev pub kept_in : CoreState → List Kept
kept_in s = heap.kept_in s.heap

-- how often the spaces were exchanged, which is the epoch
abbrev pub cycles_of : CoreState → ℕ
cycles_of s = heap.cycles_in s.heap

-- the words below FRONT in this epoch's space, which were copied, where the epoch is traced
abbrev pub live_of : CoreState → Option ℕ
live_of s = heap.live_in s.heap
