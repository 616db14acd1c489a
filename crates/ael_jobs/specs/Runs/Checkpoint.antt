-- What is printed of the last checkpoint of a run.
use Rattle.std.specs.Prelude.{◌≡◌, ℕ, Bool, true, false, List, []}
use Rattle.mutator_asm.specs.declared.instr.Instr.{Instr}
use Rattle.plain_heap.specs.declared.mark.Mark.{Mark}
use Rattle.plain_heap.specs.Checkpoints.Checkpoint.{checkpoint_lines}
use Rattle.plain_heap.specs.Checkpoints.LastCheckpoint.{IsLastCheckpoint}
use Rattle.plain_heap.specs.Order.{plain}

-- The bytes are the lines of what the plain machine has kept that executes an order: its number, and the board and the records reached from
-- it as they were right after the last `snap` of the order.
pub record TellsLast (program : List (List Instr)) (turns : ℕ) (order : List Mark) (bytes : List ℕ) : Type 0 where
  pub lines : checkpoint_lines (plain program turns order).heap.snaps (plain program turns order).heap.snapped bytes
  pub last : IsLastCheckpoint program turns order

-- they are that if it is asked for; else there are none
abbrev pub TellsLastIf : (flag : Bool) → (program : List (List Instr)) → (turns : ℕ) → List Mark → (bytes : List ℕ) → Type 0
TellsLastIf true program turns order bytes = TellsLast program turns order bytes
TellsLastIf false program turns order bytes = bytes ≡ []
