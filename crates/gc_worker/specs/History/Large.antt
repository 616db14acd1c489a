-- What heap a history needs, by the history alone.
use Rattle.std.specs.Prelude.{◌≡◌, ◌≢◌, ℕ, ◌+◌, ◌-◌, ◌*◌, ◌^◌, ◌≤◌, ◌==◌, ◌⊎◌, if◌then◌else◌, true, List, ◌∷◌, ◌++◌, Some}
use Rattle.plain_state.specs.declared.end.End.TheVariants.{HeapFull}
use Rattle.plain_state.specs.declared.sizes.TheConstants.{PAGE_WORDS}
use Rattle.plain_state.specs.Reachable.{IsLive}
use Rattle.gc_worker.specs.declared.calls.did.Did.TheVariants.{Trap}
use Rattle.gc_worker.specs.declared.calls.entry.Entry.{Entry}
use Rattle.gc_worker.specs.declared.calls.entry.Entry.TheVariants.{Made}
use Rattle.gc_worker.specs.declared.task.Task.{Task}
use Rattle.gc_worker.specs.History.Legal.{worker_call}
use Rattle.gc_worker.specs.History.Tally.{Tally, Tasks, asked_by_task, made_next, next_task, tally}

-- after so many flips a mutator finds the heap full with at least so many pages in use: with all of them, but in the last epoch
abbrev pub pages_full : (limit least flips : ℕ) → ℕ
pages_full limit least flips = if flips == 2 ^ 32 - 1 then least else limit

-- the record that mutator m makes next, if it makes one, fits beside what was live at the last flip and all records made since then, or made
-- next by the others
abbrev pub HasRoomNext : (pages : ℕ) → Tasks → Tally → (m : ℕ) → List Entry → Type 0
HasRoomNext pages tasks t m es = (asked live : ℕ) → asked_by_task t.now m (next_task m es (tasks m)) ≡ Some asked → IsLive t.flip live
    → live + PAGE_WORDS * (t.made + made_next t.now tasks m es + asked) ≤ PAGE_WORDS * pages

-- mutator m may find the heap full: a flip came since its last call, or as many came as there can be
abbrev pub MayFindFull : Tally → (m : ℕ) → Type 0
MayFindFull t m = (t.since m ≡ true) ⊎ (t.flips ≡ 2 ^ 32 - 1)

-- it does so wherever in the history a mutator may find the heap full
abbrev pub IsLargeFor : (limit least : ℕ) → Tasks → Tally → List Entry → Type 0
IsLargeFor limit least tasks first log = (front rest : List Entry) (m : ℕ) → front ++ rest ≡ log → MayFindFull (tally first front) m
    → HasRoomNext (pages_full limit least (tally first front).flips) tasks (tally first front) m rest

-- no call tells the heap to be full
abbrev pub HasNoFullCall : List Entry → Type 0
HasNoFullCall log = (front rest : List Entry) (m asked room live : ℕ) (task : Task) → front ++ Made (worker_call m task (Trap (HeapFull asked room live))) ∷ rest ≢ log
