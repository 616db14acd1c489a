-- The run of a program on threads.
use Rattle.std.specs.Prelude.{◌≡◌, List, length}
use Rattle.mutator_asm.specs.declared.instr.Instr.{Instr}
use Rattle.gc_core.specs.Run.{Ran}
use Rattle.ael_threads.specs.declared.programs.outputs.Outputs.{Outputs}
use Rattle.ael_threads.specs.Opened.{plan_of}
use Rattle.ael_threads.specs.Runs.Outputs.{Runs}
use Rattle.gc_worker.specs.History.Order.{order_of}
use Rattle.ael_threads.specs.Rule.{heap_of}
use Rattle.ael_jobs.specs.declared.arguments.options.RunOptions.{RunOptions}
use Rattle.ael_jobs.specs.Runs.Simulation.{config}

-- The program was run on threads, and this is what the run came to: its order is that of the legal history of all calls, in which every
-- mutator comes to its end, and its core is the heap that all workers have left. All that is so of a run on threads is so of it: heap
-- full comes only without room, by words with which all workers stood at that call, and fills the pages in use. There is a look by which the
-- mutator began that instruction; a flip came since, and these are all pages that the space may have, or there can be no more flips.
pub record IsThreaded (options : RunOptions) (program : List (List Instr)) (ran : Ran) : Type 0 where
  pub outputs : Outputs
  pub runs : Runs program options.turns (config options) outputs
  pub order_is : ran.order ≡ order_of runs.log
  pub last_is : ran.last ≡ record { code = program; turns = options.turns; heap = heap_of (plan_of (length program) (config options)) outputs.words runs.workers }
