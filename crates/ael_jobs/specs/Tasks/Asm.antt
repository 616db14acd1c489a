-- The task `asm`: a program is listed.
use Rattle.std.specs.Prelude.{◌≡◌, ℕ, false, List}
use Rattle.mutator_asm.specs.declared.instr.Instr.{Instr}
use Rattle.mutator_asm.specs.declared.item.Item.{Item}
use Rattle.mutator_asm.specs.Listing.{listing}
use Rattle.ael_jobs.specs.declared.status.Status.{Status}
use Rattle.ael_jobs.specs.declared.status.Status.TheVariants.{Done}
use Rattle.ael_jobs.specs.Tasks.ProgramTask.{program_task}
use Rattle.ael_jobs.specs.Tasks.Task.{Task}

-- the output is the program's listing
pub record IsListed (program : List (List Instr)) (items : List Item) (output : List ℕ) (status : Status) : Type 0 where
  pub listed : output ≡ listing program items
  pub done : status ≡ Done

abbrev pub asm_task : Task
asm_task = program_task false IsListed
