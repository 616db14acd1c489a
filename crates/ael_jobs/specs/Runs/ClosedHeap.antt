-- The heap of a run on threads once all its workers have left it.
use Rattle.std.specs.Prelude.{◌≡◌, ◌+◌, ◌≤◌, ℕ, List, length, map, take}
use Rattle.mutator_asm.specs.declared.instr.Instr.{Instr}
use Rattle.mutator_asm.specs.declared.item.Item.{Item}
use Rattle.plain_heap.specs.Order.{plain}
use Rattle.plain_heap.specs.Print.{plain_seen}
use Rattle.space_map.specs.declared.spaces.TheConstants.{MOST_MUTATORS, MOST_SCANNERS}
use Rattle.space_map.specs.Table.{table_length, whole_length}
use Rattle.gc_core.specs.Run.{Ran}
use Rattle.ael_threads.specs.declared.programs.outputs.Outputs.{Outputs}
use Rattle.ael_threads.specs.Runs.Outputs.{as_kept, printed_by}
use Rattle.ael_jobs.specs.declared.arguments.options.RunOptions.{RunOptions}
use Rattle.ael_jobs.specs.Runs.Run.{IsRunOf, Threaded}
use Rattle.ael_jobs.specs.Runs.Told.{RunReport, told_of}

-- what is told of it, by what the run told
abbrev pub told_by : Outputs → RunReport
told_by outputs = record {
  seen = map printed_by outputs.mutators.items;
  cycles = outputs.cycles;
  live = outputs.live;
  words = outputs.words;
  dump = record { pages = outputs.spaces.pages; registers = outputs.regs.items; kept = map as_kept outputs.kept.items; words = take (table_length outputs.spaces.pages) outputs.words };
}

-- it tells the registers of each mutator and all words of its layout's table, and there are no more workers than there may be
pub record IsWholeHeap (outputs : Outputs) : Type 0 where
  pub registers : length outputs.regs.items ≡ length outputs.mutators.items
  pub mutators : length outputs.mutators.items ≤ MOST_MUTATORS
  pub workers : length outputs.kept.items ≤ MOST_MUTATORS + MOST_SCANNERS
  pub words : length outputs.words ≡ whole_length outputs.spaces

-- a run of the program on threads came to this, and this is what it tells: of the mutators what is seen of those of the plain machine
pub record HasClosed (options : RunOptions) (program : List (List Instr)) (items : List Item) (told : RunReport) : Type 0 where
  pub ran : Ran
  pub is : IsRunOf (Threaded options) program items ran
  pub tells : told ≡ told_of ran.last
  pub seen : told.seen ≡ plain_seen (plain program options.turns ran.order)
