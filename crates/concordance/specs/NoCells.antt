-- Histories in which nobody makes a cell.
use Rattle.std.specs.Prelude.{◌≡◌, Bool, false, Some}
use Rattle.plain_state.specs.declared.value.Identity.{Identity}
use Rattle.plain_state.specs.Cells.{is_cell}
use Rattle.plain_state.specs.State.{Plain, Record, record_of}
use Rattle.plain_heap.specs.Tracing.{is_weak}
use Rattle.gc_worker.specs.declared.calls.call.Call.{Call}
use Rattle.gc_worker.specs.declared.task.Task.{Task}
use Rattle.gc_worker.specs.declared.task.Task.TheVariants.{Calls, Stops}

-- the task makes a cell
abbrev pub task_makes_cell : Task → Bool
task_makes_cell (Calls instr) = is_weak instr
task_makes_cell (Stops end) = false

-- the call makes none
abbrev pub MakesNoCell : Call → Type 0
MakesNoCell c = task_makes_cell c.task ≡ false

-- no record of the plain state is one
abbrev pub HasNoCells : Plain → Type 0
HasNoCells p = (i : Identity) (r : Record) → record_of p.heap i ≡ Some r → is_cell r.kind ≡ false
