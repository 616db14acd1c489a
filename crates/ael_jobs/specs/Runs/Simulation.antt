-- The run of a program by a schedule.
use Rattle.std.specs.Prelude.{◌≡◌, ℕ, List}
use Rattle.mutator_asm.specs.declared.instr.Instr.{Instr}
use Rattle.mutator_asm.specs.declared.item.Item.{Item}
use Rattle.gc_worker.specs.declared.config.Config.{Config}
use Rattle.gc_core.specs.Core.{CoreState, opening_core, workers_of}
use Rattle.gc_worker.specs.History.Needs.{EachFullIs, HasNoFull, IsLargeEnough, first_story}
use Rattle.gc_core.specs.Needs.{AreFilledByClaims}
use Rattle.gc_core.specs.Run.{Ran, run_from, EachEvent}
use Rattle.gc_core.specs.Whole.{IsFull}
use Rattle.ael_jobs.specs.declared.arguments.options.RunOptions.{RunOptions}
use Rattle.ael_jobs.specs.declared.arguments.options.SimOptions.{SimOptions}
use Rattle.ael_jobs.specs.Runs.Schedule.{scheduled_by}

-- the heap and the workers of a run
abbrev pub config : RunOptions → Config
config options = record { pages = options.pages; limit = options.limit; scanners = options.scanners; snap = options.snap }

-- the core in which the run of a program begins
abbrev pub core_of : SimOptions → List (List Instr) → CoreState
core_of options program = opening_core program options.run.turns (config options.run)

-- the worker that makes each of its steps
abbrev pub scheduled : SimOptions → List (List Instr) → List Item → ℕ → ℕ
scheduled options program items = scheduled_by options.seed items (workers_of (core_of options program))

-- the run of a program: by its schedule, up to the last end or so many steps
abbrev pub simulated_run : SimOptions → List (List Instr) → List Item → Ran
simulated_run options program items = run_from (scheduled options program items) 0 options.steps (core_of options program)

-- Each end for want of room comes where copying is done and too few words are free, and no flip could help: one came since the
-- instruction was begun and all pages that the space may have are in use, or there can be no more flips.
abbrev pub IsFullWithoutRoom : SimOptions → List (List Instr) → List Item → Type 0
IsFullWithoutRoom options program items = EachEvent IsFull (scheduled options program items) 0 options.steps (core_of options program)

-- This is the run of the program by its schedule. Heap full comes only without room: what was live at the last exchange of the spaces, and
-- records made since, fill the pages in use; so do, with the room that is left, the words of the pages that the run claimed since. And a
-- heap that may become as large as the order needs is never full; after as many flips as there can be, its pages at first have to be enough.
pub record IsSimulated (options : SimOptions) (program : List (List Instr)) (items : List Item) (ran : Ran) : Type 0 where
  pub is : ran ≡ simulated_run options program items
  pub full : IsFullWithoutRoom options program items
  pub filled : EachFullIs options.run.limit options.run.pages program options.run.turns (first_story program) 0 0 ran.order
  pub claimed : AreFilledByClaims program options.run.turns (config options.run) (scheduled options program items) options.steps ran.order
  pub large : IsLargeEnough options.run.limit options.run.pages program options.run.turns ran.order → HasNoFull ran.order
