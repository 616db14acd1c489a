-- What a core says of the last checkpoint of its run.
use Rattle.std.specs.Prelude.{◌≡◌, ℕ, List, true}
use Rattle.mutator_asm.specs.declared.instr.Instr.{Instr}
use Rattle.plain_heap.specs.declared.mark.Mark.{Mark}
use Rattle.plain_heap.specs.Checkpoints.LastCheckpoint.{IsLastCheckpoint}
use Rattle.plain_heap.specs.Order.{plain}
use Rattle.gc_worker.specs.Laws.Checkpoints.{TellsKept}
use Rattle.gc_core.specs.Core.{CoreState}
use Rattle.gc_core.specs.Run.{InEveryRun, run_of}

-- The words of a core say what the plain machine has kept that executes this order; and that is the last checkpoint of the order: the board
-- and the records right after the `snap` that began it.
pub record TellsLastCheckpoint (code : List (List Instr)) (turns : ℕ) (order : List Mark) (s : CoreState) : Type 0 where
  pub told : TellsKept s.heap (plain code turns order)
  pub last : IsLastCheckpoint code turns order

-- so it is wherever a run stops in which checkpoints can be begun
abbrev pub CheckpointsAreTold : Type 0
CheckpointsAreTold = InEveryRun (λ code turns config schedule n. config.snap ≡ true → TellsLastCheckpoint code turns (run_of code turns config schedule n).order (run_of code turns config schedule n).last)
