-- The run of a program in whatever manner, and what is printed of it.
use Rattle.std.specs.Prelude.{◌≡◌, ℕ, Bool, true, false, List, [], ◌++◌, if◌then◌else◌}
use Rattle.std.specs.List.{AllByRecursion}
use Rattle.mutator_asm.specs.declared.instr.Instr.{Instr}
use Rattle.mutator_asm.specs.declared.item.Item.{Item}
use Rattle.plain_heap.specs.Order.{first_story, plain, story}
use Rattle.plain_heap.specs.Print.{Seen, print_of, order_line, plain_seen}
use Rattle.gc_worker.specs.Laws.Lost.{AreEmptyIfLost}
use Rattle.gc_worker.specs.Plain.Marks.{EachActs}
use Rattle.gc_core.specs.Checkpoints.{TellsLastCheckpoint}
use Rattle.gc_core.specs.Cycles.{KeepsWhatIsLive}
use Rattle.gc_core.specs.Dumped.{dumped}
use Rattle.gc_core.specs.Run.{Ran}
use Rattle.dump_text.specs.Text.{IsDump}
use Rattle.heap_audit.specs.Texts.Ends.{EndFits}
use Rattle.heap_audit.specs.Texts.Order.{MarkFits}
use Rattle.ael_jobs.specs.declared.arguments.options.RunOptions.{RunOptions}
use Rattle.ael_jobs.specs.declared.arguments.options.SimOptions.{SimOptions}
use Rattle.ael_jobs.specs.declared.status.Status.{Status}
use Rattle.ael_jobs.specs.Tasks.ProgramTask.{program_task}
use Rattle.ael_jobs.specs.Runs.Checkpoint.{TellsLastIf}
use Rattle.ael_jobs.specs.Runs.Orders.{shown_order}
use Rattle.ael_jobs.specs.Runs.Verdict.{status_seen}
use Rattle.ael_jobs.specs.Runs.Simulation.{IsSimulated}
use Rattle.ael_jobs.specs.Tasks.Task.{Task}
use Rattle.ael_jobs.specs.Runs.Threads.{IsThreaded}
use Rattle.ael_jobs.specs.Runs.Told.{IsTrueDump, heap_lines, told_of}

-- how a program is run: by a schedule, or on threads
pub data Manner : Type 0 where
  Scheduled : (options : SimOptions) → Manner
  Threaded : (options : RunOptions) → Manner

abbrev pub options_by : Manner → RunOptions
options_by (Scheduled options) = options.run
options_by (Threaded options) = options

-- whether the order is printed
abbrev pub tells_order : Manner → Bool
tells_order (Scheduled options) = options.order
tells_order (Threaded options) = false

-- ---- what it comes to

-- it was made in this manner
abbrev pub IsMadeInManner : Manner → List (List Instr) → List Item → Ran → Type 0
IsMadeInManner (Scheduled options) program items ran = IsSimulated options program items ran
IsMadeInManner (Threaded options) program items ran = IsThreaded options program ran

-- This is what a run of the program came to. Each mark of its order acts: each mutator's marks execute its program from the start, none
-- skipped and none twice. A dump represents what the plain machine comes to that executes the order. If checkpoints can be begun, the words
-- of the core say the last one of the order. What was copied in a traced epoch, and is told as live, was live at the last exchange of the
-- spaces. Exactly those cells of such an epoch are empty that lost their targets by that exchange, or were empty then.
pub record IsRunOf (manner : Manner) (program : List (List Instr)) (items : List Item) (ran : Ran) : Type 0 where
  pub made : IsMadeInManner manner program items ran
  pub acts : EachActs program (options_by manner).turns (first_story program) ran.order
  pub dump : IsTrueDump ran.last (plain program (options_by manner).turns ran.order)
  pub checkpoint : (options_by manner).snap ≡ true → TellsLastCheckpoint program (options_by manner).turns ran.order ran.last
  pub live : KeepsWhatIsLive ran.last (story program (options_by manner).turns ran.order).flip
  pub lost : AreEmptyIfLost ran.last.heap (plain program (options_by manner).turns ran.order) (story program (options_by manner).turns ran.order).flip

-- ---- what is printed

-- with its flag, the bytes are the lines of the last checkpoint of the order; without, there are none
abbrev pub IsCheckpointOf : Manner → List (List Instr) → Ran → (bytes : List ℕ) → Type 0
IsCheckpointOf manner program ran bytes = TellsLastIf (options_by manner).snap program (options_by manner).turns ran.order bytes

-- the lines of the flags, with those of the last checkpoint
abbrev pub flag_lines : Manner → List (List Instr) → Ran → (checkpoint : List ℕ) → List ℕ
flag_lines manner program ran checkpoint = (if tells_order manner then order_line (shown_order program ran.order) else []) ++ heap_lines (options_by manner) (told_of ran.last) checkpoint

-- all that is printed: the lines of the plain machine that executes the order, and then those of the flags
abbrev pub output_of : Manner → List (List Instr) → Ran → (checkpoint : List ℕ) → List ℕ
output_of manner program ran checkpoint = print_of (plain program (options_by manner).turns ran.order) ++ flag_lines manner program ran checkpoint

-- if a dump is asked for, what it tells is a dump of a heap
abbrev pub IsDumpOf : Manner → Ran → Type 0
IsDumpOf manner ran = (options_by manner).dump ≡ true → IsDump (dumped ran.last)

-- the numbers of a mutator's end are those that its parts hold
abbrev pub HasFitEnd : Seen → Type 0
HasFitEnd k = EndFits k.end

-- so are those of the ends that are printed, and of the marks, if the order is
pub record HasFitNumbers (manner : Manner) (program : List (List Instr)) (ran : Ran) : Type 0 where
  pub ends : AllByRecursion HasFitEnd (plain_seen (plain program (options_by manner).turns ran.order))
  pub marks : tells_order manner ≡ true → AllByRecursion MarkFits (shown_order program ran.order)

-- how it goes, by the ends of the plain machine
abbrev pub status_of : Manner → List (List Instr) → Ran → Status
status_of manner program ran = status_seen (plain_seen (plain program (options_by manner).turns ran.order))

-- the output is what is printed of a run of the program
pub record IsRun (manner : Manner) (program : List (List Instr)) (items : List Item) (output : List ℕ) (status : Status) : Type 0 where
  pub ran : Ran
  pub is : IsRunOf manner program items ran
  pub checkpoint : List ℕ
  pub saved : IsCheckpointOf manner program ran checkpoint
  pub is_dump : IsDumpOf manner ran
  pub fits : HasFitNumbers manner program ran
  pub prints : output ≡ output_of manner program ran checkpoint
  pub went : status ≡ status_of manner program ran

-- ---- the tasks

-- `sim`: a program is run by a schedule
abbrev pub sim_task : SimOptions → Task
sim_task options = program_task false (IsRun (Scheduled options))

-- `run`: a program is run on threads
abbrev pub run_task : RunOptions → Task
run_task options = program_task true (IsRun (Threaded options))
