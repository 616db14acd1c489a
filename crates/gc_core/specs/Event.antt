-- The event of a worker: its next atomic step.
use Rattle.std.specs.Prelude.{ℕ, List, Option, Some, None}
use Rattle.mutator_asm.specs.declared.instr.Instr.{Instr}
use Rattle.plain_heap.specs.Step.{fetch}
use Rattle.atom_store.specs.declared.step.Step.{Step}
use Rattle.atom_store.specs.Step.{reply_of}
use Rattle.gc_worker.specs.declared.stage.Stage.{Stage}
use Rattle.gc_worker.specs.declared.stage.Stage.TheVariants.{Looks}
use Rattle.gc_worker.specs.declared.task.Task.{Task}
use Rattle.gc_worker.specs.Laws.Between.{with_task}
use Rattle.gc_worker.specs.Workers.Held.{Held}
use Rattle.gc_worker.specs.Laws.Step.{Heap, held_at, moved}
use Rattle.gc_worker.specs.Plain.Marks.{task_of}
use Rattle.gc_worker.specs.Plain.Seen.{seen}
use Rattle.gc_worker.specs.Steps.Stepped.{stepped_by}
use Rattle.gc_worker.specs.Steps.Turned.{told}
use Rattle.gc_worker.specs.Steps.Wanted.{wanted}
use Rattle.gc_core.specs.Core.{CoreState}
use Rattle.gc_worker.specs.declared.steps.stepped.Stepped.{Stepped}
use Rattle.gc_worker.specs.declared.steps.stepped.Stepped.TheVariants.{Idle}

-- ---- the next task

-- the instruction that mutator m executes next, or the end that stands in its place
abbrev pub fetched_task : List (List Instr) → (turns m : ℕ) → Held → Task
fetched_task code turns m x = task_of (fetch code turns m (seen x.account x.registers))

abbrev pub given : List (List Instr) → (turns m : ℕ) → Held → Stage → Option Task → Held
given code turns m x Looks None = with_task x (fetched_task code turns m x)
given code turns m x stage task = x

-- a mutator that looks at the gate and has answered its task is given the next one
abbrev pub readied : List (List Instr) → (turns m : ℕ) → Held → Held
readied code turns m x = given code turns m x x.stage x.task

-- ---- the event

-- what is told of it, and the heap after it
pub record Event : Type 0 where
  pub told : Stepped
  pub after : Heap

-- worker w, which holds x, wants this step, or none
abbrev pub event_by : Heap → ℕ → Held → Option Step → Event
event_by h w x None = record { told = Idle; after = h }
event_by h w x (Some q) = record { told = stepped_by w (told x (reply_of q h.words)); after = moved h w x q }

-- what worker w holds as it makes its next step
abbrev pub ready : CoreState → ℕ → Held
ready s w = readied s.code s.turns w (held_at s.heap w)

-- the event of worker w
unfoldable pub event_of : CoreState → ℕ → Event
event_of s w = event_by s.heap w (ready s w) (wanted (ready s w))

-- the core after it
abbrev pub core_after : CoreState → ℕ → CoreState
core_after s w = record s { heap = (event_of s w).after }
