-- All workers of a heap, what the code of one of them holds, and the history for which they stand.
use Rattle.std.specs.Prelude.{◌≡◌, ℕ, ◌+◌, List, length}
use mathlib.Core.Option.{some}
use lib.ListN.{get_elem?}
use Rattle.plain_state.specs.State.{Plain}
use Rattle.gc_worker.specs.Workers.Held.{Held}
use Rattle.gc_worker.specs.Laws.Lost.{AreEmptyIfLost}
use Rattle.gc_worker.specs.Laws.Step.{Heap, WorkersStand}
use Rattle.gc_worker.specs.Steps.Stepped.{uncounted}
use Rattle.gc_worker.specs.declared.calls.entry.Entry.{Entry}
use Rattle.gc_worker.specs.History.Legal.{IsLegal, after_all, last_flip}
use Rattle.ael_threads.specs.declared.view.Plan.{Plan}
use Rattle.ael_threads.specs.Histories.{first_plain}

-- the number of workers
abbrev pub crew : Plan → ℕ
crew plan = plan.mutators + plan.scanners

abbrev pub heap_of : Plan → (words : List ℕ) → (workers : List Held) → Heap
heap_of plan words workers = record { pages = plan.spaces.pages; checkpoints = plan.spaces.checkpoints; words = words; mutators = plan.mutators; workers = workers }

-- A worker stands in the list with its count of instructions, which its code doesn't hold.
pub record StandsAs (workers : List Held) (n : ℕ) (x : Held) : Type 0 where
  pub held : Held
  pub is : get_elem? workers n ≡ some held
  pub shown : uncounted held ≡ x

-- A legal history from the plain state first on, and all workers of the heap. With what these hold the words stand for the plain state
-- after it; once the epoch is traced, exactly those cells of its space are empty that lost their targets by its last flip, or were empty
-- then.
pub record HistoryStands (first : Plain) (plan : Plan) (words : List ℕ) : Type 0 where
  pub log : List Entry
  pub workers : List Held
  pub legal : IsLegal first log
  pub count : length workers ≡ crew plan
  pub stands : WorkersStand (heap_of plan words workers) (after_all first log) (last_flip first log)
  pub lost : AreEmptyIfLost (heap_of plan words workers) (after_all first log) (last_flip first log)

-- Words and workers that stand for the plain state after this history, and what worker m holds among them.
pub record StandsAfter (plan : Plan) (m : ℕ) (log : List Entry) : Type 0 where
  pub words : List ℕ
  pub workers : List Held
  pub held : Held
  pub here : StandsAs workers m (uncounted held)
  pub stands : WorkersStand (heap_of plan words workers) (after_all (first_plain plan) log) (last_flip (first_plain plan) log)
