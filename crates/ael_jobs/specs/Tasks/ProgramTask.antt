-- Tasks whose input is the text of a program.
use Rattle.std.specs.Prelude.{⊤, ℕ, Bool, List}
use Rattle.mutator_asm.specs.declared.instr.Instr.{Instr}
use Rattle.mutator_asm.specs.declared.item.Item.{Item}
use Rattle.mutator_asm.specs.Text.{IsText, IsFault}
use Rattle.ael_jobs.specs.declared.status.Status.{Status}
use Rattle.ael_jobs.specs.declared.status.Status.TheVariants.{NoMemory, ReadFault, Text, TooLong}
use Rattle.ael_jobs.specs.Streams.Ends.{Drawn}
use Rattle.ael_jobs.specs.Tasks.Task.{Everything, IsInput, IsUnread, Task}

-- the bytes are the text of a program
pub record IsProgram (bytes : List ℕ) : Type 0 where
  pub program : List (List Instr)
  pub items : List Item
  pub text : IsText bytes program items

-- the bytes are a text with this fault
abbrev pub HasFault : List ℕ → Status → Type 0
HasFault bytes (Text number line) = IsFault bytes number line
HasFault bytes _ = ⊥

-- the bytes are the text of a program, and this is made of it
pub record IsMadeOf (Makes : List (List Instr) → List Item → List ℕ → Status → Type 0) (bytes output : List ℕ) (status : Status) : Type 0 where
  pub program : List (List Instr)
  pub items : List Item
  pub text : IsText bytes program items
  pub made : Makes program items output status

-- the whole input, read to its end, is the text of this program
pub record IsTextIn (source : Drawn) (program : List (List Instr)) (items : List Item) : Type 0 where
  pub bytes : List ℕ
  pub input : IsInput Everything source bytes
  pub text : IsText bytes program items

-- the whole input, read to its end, is a text with this fault
pub record IsFaulty (source : Drawn) (number line : ℕ) : Type 0 where
  pub bytes : List ℕ
  pub input : IsInput Everything source bytes
  pub fault : IsFault bytes number line

-- why there is no program: the text has a fault, the input could not be read, or memory was wanting
abbrev pub IsUnfit : Drawn → Status → Type 0
IsUnfit source (Text number line) = IsFaulty source number line
IsUnfit source ReadFault = IsUnread Everything source ReadFault
IsUnfit source TooLong = IsUnread Everything source TooLong
IsUnfit source NoMemory = ⊤
IsUnfit source _ = ⊥

-- the task that makes this of a program, waiting for other threads or not
abbrev pub program_task : Bool → (List (List Instr) → List Item → List ℕ → Status → Type 0) → Task
program_task waits Makes = record {
  reads = Everything;
  waits = waits;
  IsRight = IsProgram;
  Refuses = HasFault;
  Makes = IsMadeOf Makes;
}
